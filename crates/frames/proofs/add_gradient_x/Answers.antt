-- `frames::add_gradient_x` meets its contract: the part lent from image 2 on comes back with its image 1 set. Assumes nothing.
use Prim.Native.Nat.{◌*◌, ◌-◌}
use native.Mathlib.Omega.{arith}
use lib.ListN.{length}
use Rattle.lists.proofs.Images.{step_back}
use Rattle.gradients.specs.Gradients.{gradient_x}
use Rattle.gradients.proofs.Sizes.{length_gradient_x}
use Rattle.frames.proofs.add_gradient_x.Goals as goal

pub returns : goal.returns
returns c =
    let a = c.args in
    let n = a.w * a.h in
    let xs = a.work.now in
    step_back (gradient_x a.w a.h) n 2 0 1 (length xs - 2 * n) xs _ c.gradient_x.ensures (length_gradient_x a.w a.h) (omega arith) (omega arith) (omega arith)
