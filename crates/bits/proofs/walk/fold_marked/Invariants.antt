-- `bits::fold_marked` meets its contract. The loop's invariant: whatever `step` works out at each pixel, t is s taken through the marked pixels that the walk has passed. Assumes nothing.
use Prim.Native.Nat.{ℕ, ◌≤◌, ◌<◌}
use mathlib.Core.Path.{◌≡◌}
use Rattle.lists.specs.Marked.{over_marked}
use Rattle.marks.specs.Marks.{on}
use Rattle.bits.specs.Words.{unpacked_of}
use Rattle.bits.proofs.Walks.{Along}
use Rattle.bits.proofs.walk.fold_marked.Given as goal

abbrev pub invariant-loop-r : goal.invariant-loop-r
invariant-loop-r g l = Along l.words l.to l.r-iterator
    × ((n : ℕ) (f : _ → ℕ → _) (z : _) → l.to ≤ n → ((u : _) (k : ℕ) (r : _) → k < l.to → goal.F-post g l.step u k r → r ≡ f u k) →
    let m = on (unpacked_of l.words n) in l.initial.t ≡ over_marked m f z l.from → l.t ≡ over_marked m f z l.r-iterator.at)
