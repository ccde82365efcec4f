-- `sums::steep_row` meets its contract. The loop's invariant: the first x numbers of the row stand, and nothing else has changed. Assumes nothing.
use Prim.Native.Nat.{◌+◌, ◌*◌}
use mathlib.Core.Path.{◌≡◌}
use Rattle.lists.specs.Lists.{tab, put}
use Rattle.sums.proofs.Rows.{row_rule}
use Rattle.sums.proofs.steep_row.Given as goal

abbrev pub invariant-loop-x : goal.invariant-loop-x
invariant-loop-x l = l.part ≡ put l.initial.part (5 * l.n + l.row) (tab l.x (row_rule l.initial.part l.n l.row l.ct l.st l.yc l.ys))
