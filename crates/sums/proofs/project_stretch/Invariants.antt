-- `sums::project_stretch` meets its contract. The loop's invariant: the pixels from `from` on, before i, are added to the sums that stood. Assumes nothing.
use Prim.Native.Nat.{◌-◌, ◌≤◌}
use Rattle.sums.specs.Fours.{SumsMore}
use Rattle.sums.proofs.project_stretch.Given as goal

abbrev pub invariant-loop-i : goal.invariant-loop-i
invariant-loop-i l = (l.from ≤ l.i) × (l.i ≤ l.to) × SumsMore l.part l.n l.q l.from (l.i - l.from) l.initial.m l.m

abbrev pub decreases-loop-i : goal.decreases-loop-i
decreases-loop-i l = l.to - l.i
