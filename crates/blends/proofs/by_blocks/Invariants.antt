-- `blends::by_blocks` meets its contract: a turn reads some more pixels of the stretch, in one of two ways. Assumes nothing.
use Prim.Native.Nat.{◌+◌, ◌-◌}
use Rattle.blends.proofs.Stretch.{StretchHeld, taken}
use Rattle.blends.proofs.by_blocks.Given as goal

abbrev pub invariant-loop-x : goal.invariant-loop-x
invariant-loop-x l = StretchHeld l.n (l.at + l.from) l.from l.to (taken l.n l.w l.at l.from l.to l.spots l.across l.down l.initial.part) l.initial.part l.part l.x

abbrev pub decreases-loop-x : goal.decreases-loop-x
decreases-loop-x l = l.to - l.x
