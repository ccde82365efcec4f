-- What each public answer commits to. A contract is the function's `Post`, over what was handed in (a), the result (r) and the lent slices at exit (s).
-- The slice that stands at place k of the parameters, from 0, is `now` of s with k times .1, then .0. Definitions only.
use Rattle.std.specs.Prelude.{ℕ, ◌≡◌, List, Float}
use contract.Lifetimes.{Lfts}
use denote.Triple.Clauses.{AtExit}
use borrow.Fn.Kinds.{ParamKind, ResultKind, Dens, Out, res_t, ended_of}
use Rattle.inverse.specs.declared.Matrix3.{Matrix3}
use Rattle.pose.specs.declared.Outcome.{Outcome}
use Rattle.pose.proofs.matrix_of.Reads as matrix
use Rattle.pose.proofs.matrix_of.Kinds as matrix_kinds
use Rattle.alignment.proofs.find_transform_ecc_euclidean.Reads as alignment
use Rattle.alignment.proofs.find_transform_ecc_euclidean.Kinds as alignment_kinds
use Rattle.aligner.specs.declared.EccAligner.{EccAligner}
use Rattle.aligner.specs.declared.Reply.{Reply}
use Rattle.aligner.proofs.estimate.Reads as estimate
use Rattle.aligner.proofs.estimate.Kinds as estimate_kinds
use Rattle.aligner.proofs.EccAligner.new.Reads as fresh
use Rattle.aligner.proofs.EccAligner.new.Kinds as fresh_kinds
use Rattle.driver.specs.declared.Pins.{Pins}
use Rattle.driver.proofs.pins_of.Reads as pins
use Rattle.driver.proofs.pins_of.Kinds as pins_kinds
use Rattle.records.specs.declared.Record.{Record}
use Rattle.records.proofs.next.Reads as next
use Rattle.records.proofs.next.Kinds as next_kinds

-- any two results that a contract admits for the same call are seen alike: `view` is what is seen of the result and of the lent slices at exit
abbrev pub Commits : {n : ℕ} (ps : List (ParamKind n)) (res : ResultKind n) → Out n ps res → (Seen : Type 0) → ((κs : Lfts n) → (res_t res κs).Denot → AtExit (ended_of n ps res) κs → Seen) → Type 0
Commits {n} ps res Post Seen view =
    (κs : Lfts n) (a : Dens κs ps) (r r' : (res_t res κs).Denot) (s s' : AtExit (ended_of n ps res) κs) → Post κs a r s → Post κs a r' s' → view κs r s ≡ view κs r' s'

-- the matrix of an answer
abbrev pub MatrixCommits : Type 0
MatrixCommits = Commits matrix_kinds.ps matrix_kinds.r matrix.Post Matrix3 (λ κs r s. r)

-- the alignment: the answer with its pass count, work and marks
abbrev pub AlignmentCommits : Type 0
AlignmentCommits =
    Commits alignment_kinds.ps alignment_kinds.r alignment.Post (Outcome × List Float × List ℕ)
    (λ κs r s. (r, s.1.1.1.1.1.0.now, s.1.1.1.1.1.1.0.now))

-- the aligner: its record and the answer, store, work and marks
abbrev pub EstimateCommits : Type 0
EstimateCommits =
    Commits estimate_kinds.ps estimate_kinds.r estimate.Post (Reply × List ℕ × List Float × List ℕ)
    (λ κs r s. (r, s.1.1.1.1.0.now, s.1.1.1.1.1.0.now, s.1.1.1.1.1.1.0.now))

-- a fresh aligner
abbrev pub FreshCommits : Type 0
FreshCommits = Commits fresh_kinds.ps fresh_kinds.r fresh.Post EccAligner (λ κs r s. r)

-- the driver numbers
abbrev pub PinsCommits : Type 0
PinsCommits = Commits pins_kinds.ps pins_kinds.r pins.Post Pins (λ κs r s. r)

-- the record at the start of some bytes
abbrev pub NextCommits : Type 0
NextCommits = Commits next_kinds.ps next_kinds.r next.Post Record (λ κs r s. r)
