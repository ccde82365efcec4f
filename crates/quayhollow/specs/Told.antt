-- What a caller in C or Rust counts on of the numbers that are handed out. Statements only.
use Rattle.std.specs.Prelude.{ℕ, ◌*◌, ◌/◌, ◌%◌, ◌≤◌, ◌<◌, ◌≡◌, List, length, Float}
use Rattle.lists.specs.Marked.{words_for}
use Rattle.lists.specs.Premises.{InRange}
use Rattle.settings.specs.declared.EccConfig.{EccConfig}
use Rattle.checks.specs.Checks.{size_of, room_of}
use Rattle.pose.specs.Pose.{number_of}
use Rattle.pose.specs.declared.Outcome.{Outcome}
use Rattle.alignment.specs.Aligned.{aligned_of}
use Rattle.aligner.specs.Aligner.{estimate_of}
use Rattle.aligner.specs.declared.EccAligner.{EccAligner}
use Rattle.boundary.specs.Boundary.{config_of, pixel_count_of, code_of}
use Rattle.quayhollow.specs.State.{remembered_of, state_after}

-- A code gives number and passes back: they are its remainder and quotient by 256
abbrev pub CodeTold : Type 0
CodeTold = (o : Outcome) → number_of o.answer < 256 → (code_of o % 256 ≡ number_of o.answer) × (code_of o / 256 ≡ o.passes)

-- a number of the table, and passes within their limit
abbrev pub Small : Outcome → Type 0
Small o = (number_of o.answer ≤ 13) × (o.passes ≤ 1000)

-- So is every call's outcome: its code goes into 32 bits
pub record OutcomesSmall : Type 0 where
  pub aligned : (template input : List ℕ) (w h : ℕ) (cfg : EccConfig) (work marks : ℕ) → Small (aligned_of template input w h cfg work marks)
  pub estimated : (a : EccAligner) (frame : List ℕ) (w h : ℕ) (store : List ℕ) (work marks : ℕ) → Small (estimate_of a frame w h store work marks).outcome

-- The lengths told are those by which the alignment checks and clears, and they are room enough
pub record LengthsTold (eps : Float) (most filter edge w h : ℕ) : Type 0 where
  pub pixels : size_of (config_of eps most filter edge) w h ≡ pixel_count_of w h edge
  pub room : room_of (config_of eps most filter edge) w h (12 * pixel_count_of w h edge) (words_for (pixel_count_of w h edge)) ≡ 0

abbrev pub LengthsServe : Type 0
LengthsServe = (eps : Float) (most filter edge w h : ℕ) → InRange w h → LengthsTold eps most filter edge w h

-- The state, read again by the next call, is the record that the aligner handed back
abbrev pub StateTold : Type 0
StateTold =
    (cfg : EccConfig) (s : List ℕ) → 3 ≤ length s → (frame store : List ℕ) (w h work marks : ℕ) →
    remembered_of cfg (state_after (length frame) w h (length store) s) ≡ (estimate_of (remembered_of cfg s) frame w h store work marks).aligner
