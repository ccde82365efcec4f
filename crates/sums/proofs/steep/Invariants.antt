-- `sums::steep` meets its contract. The loop's invariant: the rows from `first` on, before y, stand in image 5, and nothing else has changed. Assumes nothing.
use Prim.Native.Nat.{◌+◌, ◌-◌, ◌*◌}
use mathlib.Core.Path.{◌≡◌}
use Rattle.lists.specs.Lists.{grid, put}
use Rattle.sums.proofs.Rows.{rows_rule}
use Rattle.sums.proofs.steep.Given as goal

abbrev pub invariant-loop-y : goal.invariant-loop-y
invariant-loop-y l = l.part ≡ put l.initial.part (5 * l.n + l.first * l.w) (grid l.w (l.y - l.first) (rows_rule l.initial.part l.n l.w l.ct l.st l.first))
