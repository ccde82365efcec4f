-- `stats::centred_stretch` meets its contract. The loop's invariant: the places below i of the stretch hold the centred numbers, nothing else has changed, and the three
-- sums are those of these places, added to what was before. Assumes nothing.
use Prim.Native.Nat.{◌-◌}
use mathlib.Core.Path.{◌≡◌}
use Rattle.lists.specs.Marked.{over_range}
use Rattle.stats.proofs.Filling.{add_three, filled}
use Rattle.stats.proofs.centred_stretch.Given as goal

abbrev pub invariant-loop-i : goal.invariant-loop-i
invariant-loop-i l = (l.part ≡ filled l.n l.from l.mean l.initial.part (l.i - l.from)) × (l.s ≡ over_range (add_three l.n l.mean l.initial.part) l.initial.s l.from (l.i - l.from))
