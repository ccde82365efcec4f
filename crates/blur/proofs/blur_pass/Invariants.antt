-- `blur::blur_pass` meets its contract. The loop's invariant: the first y rows of the second image are the pass's. Assumes nothing.
use mathlib.Core.Path.{◌≡◌}
use Prim.Native.Nat.{◌*◌}
use lib.ListN.{take}
use Rattle.lists.specs.Lists.{grid, put}
use Rattle.blur.specs.Pass.{taps_of}
use Rattle.blur.proofs.blur_pass.Given as goal

abbrev pub invariant-loop-y : goal.invariant-loop-y
invariant-loop-y l = l.part ≡ put l.initial.part (l.w * l.h) (grid l.w l.y (taps_of l.along l.ks l.ksize l.w l.h (take (l.w * l.h) l.initial.part) l.ksize))
