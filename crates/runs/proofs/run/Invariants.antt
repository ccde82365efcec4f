-- `runs::run` meets its contract: at the loop's head k passes are done, the run is going on, and what passes keep is kept. Assumes nothing.
use Prim.Native.Nat.{◌*◌}
use mathlib.Core.Path.{◌≡◌}
use Rattle.lists.specs.Lists.{image}
use Rattle.floats.specs.Bound.{Within}
use Rattle.pass.specs.Pass.{pass_of}
use Rattle.pass.specs.Kept.{Kept, KeptMarks}
use Rattle.runs.specs.Runs.{after, going}
use Rattle.runs.proofs.run.Given as goal

abbrev pub invariant-loop-k : goal.invariant-loop-k
invariant-loop-k l = (after (pass_of (image (l.w * l.h) 8 l.initial.work) (image (l.w * l.h) 2 l.initial.work) (image (l.w * l.h) 3 l.initial.work) (image (l.w * l.h) 4 l.initial.work) l.w l.h l.eps) l.k ≡ going l.k l.at l.rho l.last) × Within l.at.theta 2 1
    × Kept (l.w * l.h) l.initial.work l.work × KeptMarks (l.w * l.h) l.initial.marks l.marks
