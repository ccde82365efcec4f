-- `blends::breaks` meets its contract. Assumes nothing.
use Prim.Native.Nat.{◌-◌, ◌≤◌, ◌<◌}
use mathlib.Core.Path.{◌≡◌}
use Rattle.blends.specs.Reads.{breaks_of}
use Rattle.blends.proofs.breaks.Given as goal

abbrev pub invariant-loop-x : goal.invariant-loop-x
invariant-loop-x l = (l.from < l.x) × (l.x ≤ l.to) × (l.k ≡ breaks_of l.spots l.from (l.x - l.from - 1))
