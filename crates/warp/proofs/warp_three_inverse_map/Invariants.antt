-- `warp::warp_three_inverse_map` meets its contract: a row at a turn. Assumes nothing.
use Prim.Native.Nat.{◌*◌}
use mathlib.Core.Path.{◌≡◌}
use lib.ListN.{length}
use Rattle.warp.specs.Rows.{WarpedThrough}
use Rattle.warp.proofs.warp_three_inverse_map.Given as goal

abbrev pub invariant-loop-y : goal.invariant-loop-y
invariant-loop-y l = WarpedThrough l.map l.w l.h 0 (l.y * l.w) l.initial.part l.initial.marks l.part l.marks × (length l.part ≡ length l.initial.part) × (length l.marks ≡ length l.initial.marks)
