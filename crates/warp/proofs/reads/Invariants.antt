-- `warp::reads` meets its contract: a stretch at a turn. Assumes nothing.
use Prim.Native.Nat.{◌-◌}
use Rattle.warp.proofs.Rows.{ReadsHeld}
use Rattle.warp.proofs.reads.Given as goal

abbrev pub invariant-loop-x : goal.invariant-loop-x
invariant-loop-x l = ReadsHeld l.n l.w l.at l.len l.marks l.scratch.spots l.scratch.across l.scratch.down l.initial.part l.part l.x

abbrev pub decreases-loop-x : goal.decreases-loop-x
decreases-loop-x l = l.len - l.x
