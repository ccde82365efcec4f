-- `warp::warp_row` meets its contract: a piece at a turn. Assumes nothing.
use Prim.Native.Nat.{◌-◌, ◌*◌, ◌≤◌}
use mathlib.Core.Path.{◌≡◌}
use lib.ListN.{length}
use Rattle.warp.specs.Rows.{WarpedThrough}
use Rattle.warp.proofs.warp_row.Given as goal

abbrev pub invariant-loop-x : goal.invariant-loop-x
invariant-loop-x l = WarpedThrough l.map l.w l.h (l.y * l.w) l.x l.initial.part l.initial.marks l.part l.marks × (l.x ≤ l.w) × (length l.part ≡ length l.initial.part) × (length l.marks ≡ length l.initial.marks)

abbrev pub decreases-loop-x : goal.decreases-loop-x
decreases-loop-x l = l.w - l.x
