-- DEMANDS 1 AND 3, over any results that the alignment's contract admits. Definitions only.
use Rattle.std.specs.Prelude.{ℕ, ◌≡◌, set}
use Rattle.checks.specs.Checks.{size_of}
use Rattle.demands.specs.Finite.{CallEnded}
use Rattle.demands.specs.Agree.{Marked, SeenAlike, Plain, BytesAlike}
use Rattle.demands.specs.Calls.{Alignment, template, input, w, h, cfg, work, marks, work', marks', outcome, check}

-- Demand 1: a call ends with a pose of finite numbers or a number from 1 to 10, and the number says what passes were done and what work and marks hold
unfoldable pub CallEnds : Type 0
CallEnds = (c : Alignment) → CallEnded (size_of (cfg c) (w c) (h c)) (cfg c).max_iter (outcome c) (work c) (work' c) (marks c) (marks' c)

-- two calls past the checks with the same input, sides and settings. Work and marks may be of any lengths
pub record Beside (c c' : Alignment) : Type 0 where
  pub past : check c ≡ 0
  pub past' : check c' ≡ 0
  pub same_input : input c ≡ input c'
  pub same_w : w c ≡ w c'
  pub same_h : h c ≡ h c'
  pub same_cfg : cfg c ≡ cfg c'

-- Demand 3: where the prepared templates hold the same bits at each pixel that is marked in any pass of the first call, the answers are the same
unfoldable pub SameAnswer : Type 0
SameAnswer = (c c' : Alignment) → Beside c c' → SeenAlike (template c) (template c') (input c) (w c) (h c) (cfg c) → outcome c ≡ outcome c'

-- the same of the templates' bytes, where no side changes and the filter is 1
unfoldable pub SameBytes : Type 0
SameBytes = (c c' : Alignment) → Beside c c' → Plain (w c) (h c) (cfg c) → BytesAlike (template c) (template c') (input c) (w c) (h c) (cfg c) → outcome c ≡ outcome c'

-- a byte of the template that is marked in no pass may be any other
unfoldable pub ByteUnseen : Type 0
ByteUnseen =
    (c c' : Alignment) → Beside c c' → Plain (w c) (h c) (cfg c) → (i v : ℕ) → template c' ≡ set (template c) i v → (Marked (template c) (input c) (w c) (h c) (cfg c) i → ⊥) → outcome c ≡ outcome c'
