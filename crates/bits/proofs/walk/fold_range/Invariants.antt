-- `bits::fold_range` meets its contract. The loop's invariant: whatever `step` works out at each place, t is s taken through the places below i. Assumes nothing.
use Prim.Native.Nat.{ℕ, ◌-◌, ◌<◌}
use mathlib.Core.Path.{◌≡◌}
use Rattle.lists.specs.Marked.{over_range}
use Rattle.bits.proofs.walk.fold_range.Given as goal

abbrev pub invariant-loop-i : goal.invariant-loop-i
invariant-loop-i g l = (f : _ → ℕ → _) → ((u : _) (k : ℕ) (r : _) → k < l.to → goal.F-post g l.step u k r → r ≡ f u k) → l.t ≡ over_range f l.initial.t l.from (l.i - l.from)
