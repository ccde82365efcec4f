-- `frames::add_gradient_y` meets its contract: the part lent from image 2 on comes back with its image 2 set. Assumes nothing.
use Prim.Native.Nat.{◌*◌, ◌-◌}
use native.Mathlib.Omega.{arith}
use lib.ListN.{length}
use Rattle.lists.proofs.Images.{step_back}
use Rattle.gradients.specs.Gradients.{gradient_y}
use Rattle.gradients.proofs.Sizes.{length_gradient_y}
use Rattle.frames.proofs.add_gradient_y.Goals as goal

pub returns : goal.returns
returns c =
    let a = c.args in
    let n = a.w * a.h in
    let xs = a.work.now in
    step_back (gradient_y a.w a.h) n 2 0 2 (length xs - 2 * n) xs _ c.gradient_y.ensures (length_gradient_y a.w a.h) (omega arith) (omega arith) (omega arith)
