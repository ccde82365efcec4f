-- `blends::blend_row` meets its contract. The loop's invariant: the first x pixels stand, and nothing else has changed. Assumes nothing.
use Prim.Native.Nat.{◌≤◌}
use mathlib.Core.Path.{◌≡◌}
use lib.ListN.{length}
use Rattle.lists.specs.Lists.{tab, put}
use Rattle.blends.proofs.Runs.{row_rule}
use Rattle.blends.proofs.blend_row.Given as goal

abbrev pub invariant-loop-x : goal.invariant-loop-x
invariant-loop-x l = (l.x ≤ l.len) × (length l.part ≡ length l.initial.part) × (l.part ≡ put l.initial.part l.to (tab l.x (row_rule l.initial.part l.across l.down l.w l.i l.from)))
