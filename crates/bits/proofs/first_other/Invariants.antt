-- `bits::first_other` meets its contract. The invariant: the pixels passed have the bit that is passed by. Assumes nothing.
use Prim.Native.Nat.{ℕ, ◌+◌, ◌-◌, ◌≤◌, ◌<◌}
use mathlib.Core.Path.{◌≡◌}
use mathlib.Core.List.{List}
use Rattle.lists.specs.Marked.{pick}
use Rattle.bits.specs.Words.{bit_at}
use Rattle.bits.proofs.first_other.Given as goal

abbrev pub Passed : List ℕ → ℕ → ℕ → ℕ → ℕ → Type 0
Passed ws b i e at = (k : ℕ) → i ≤ k → k < at → k < e → bit_at ws k ≡ b

abbrev pub invariant-loop-at : goal.invariant-loop-at
invariant-loop-at l = (l.i ≤ l.at) × (l.at ≤ l.e + 64) × Passed l.words (pick l.marked 1 0) l.i l.e l.at

abbrev pub decreases-loop-at : goal.decreases-loop-at
decreases-loop-at l = l.e + 64 - l.at
