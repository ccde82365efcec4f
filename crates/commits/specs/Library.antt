-- The same for each function of the library for C and Rust: its result, and what each slice that it may write holds afterwards. Definitions only.
use Rattle.std.specs.Prelude.{ℕ, List, ℤ, Float}
use Rattle.quayhollow.proofs.quayhollow_version.Reads as version
use Rattle.quayhollow.proofs.quayhollow_version.Kinds as version_kinds
use Rattle.quayhollow.proofs.quayhollow_work_len.Reads as work_len
use Rattle.quayhollow.proofs.quayhollow_work_len.Kinds as work_len_kinds
use Rattle.quayhollow.proofs.quayhollow_marks_len.Reads as marks_len
use Rattle.quayhollow.proofs.quayhollow_marks_len.Kinds as marks_len_kinds
use Rattle.quayhollow.proofs.quayhollow_store_len.Reads as store_len
use Rattle.quayhollow.proofs.quayhollow_store_len.Kinds as store_len_kinds
use Rattle.quayhollow.proofs.quayhollow_align.Reads as align
use Rattle.quayhollow.proofs.quayhollow_align.Kinds as align_kinds
use Rattle.quayhollow.proofs.quayhollow_estimate.Reads as estimate
use Rattle.quayhollow.proofs.quayhollow_estimate.Kinds as estimate_kinds
use Rattle.quayhollow.proofs.quayhollow_matrix.Reads as matrix
use Rattle.quayhollow.proofs.quayhollow_matrix.Kinds as matrix_kinds
use Rattle.quayhollow.proofs.quayhollow_pins.Reads as pins
use Rattle.quayhollow.proofs.quayhollow_pins.Kinds as pins_kinds
use Rattle.commits.specs.Commits.{Commits}

-- the version
abbrev pub VersionCommits : Type 0
VersionCommits = Commits version_kinds.ps version_kinds.r version.Post ℕ (λ κs r s. r)

-- the lengths of work, marks and store
abbrev pub WorkLenCommits : Type 0
WorkLenCommits = Commits work_len_kinds.ps work_len_kinds.r work_len.Post ℕ (λ κs r s. r)

abbrev pub MarksLenCommits : Type 0
MarksLenCommits = Commits marks_len_kinds.ps marks_len_kinds.r marks_len.Post ℕ (λ κs r s. r)

abbrev pub StoreLenCommits : Type 0
StoreLenCommits = Commits store_len_kinds.ps store_len_kinds.r store_len.Post ℕ (λ κs r s. r)

-- the alignment: the code; pose, work and marks
abbrev pub AlignCodeCommits : Type 0
AlignCodeCommits =
    Commits align_kinds.ps align_kinds.r align.Post (ℕ × List Float × List Float × List ℕ)
    (λ κs r s. (r, s.1.1.1.1.1.1.1.1.1.1.0.now, s.1.1.1.1.1.1.1.1.0.now, s.1.1.1.1.1.1.1.1.1.0.now))

-- the aligner: the code; pose, state, store, work and marks
abbrev pub EstimateCodeCommits : Type 0
EstimateCodeCommits =
    Commits estimate_kinds.ps estimate_kinds.r estimate.Post (ℕ × List Float × List ℕ × List ℕ × List Float × List ℕ)
    (λ κs r s. (
      r,
      s.1.1.1.1.1.1.1.1.1.1.1.0.now,
      s.1.1.1.1.1.1.1.0.now,
      s.1.1.1.1.1.1.1.1.0.now,
      s.1.1.1.1.1.1.1.1.1.0.now,
      s.1.1.1.1.1.1.1.1.1.1.0.now,
    ))

-- the matrix of an answer, and the driver numbers
abbrev pub MatrixFloatsCommits : Type 0
MatrixFloatsCommits = Commits matrix_kinds.ps matrix_kinds.r matrix.Post (List Float) (λ κs r s. s.1.1.1.1.0.now)

abbrev pub PinsNumbersCommits : Type 0
PinsNumbersCommits = Commits pins_kinds.ps pins_kinds.r pins.Post (List ℤ) (λ κs r s. s.1.1.1.1.1.1.0.now)
