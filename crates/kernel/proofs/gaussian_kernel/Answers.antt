-- `kernel::gaussian_kernel` meets its contract. Assumes nothing.
use mathlib.Core.Path.{◌∙◌}
use Rattle.kernel.proofs.Kernels.{kernel_is}
use Rattle.kernel.proofs.gaussian_kernel.Goals as goal

pub returns : goal.returns
returns c =
    c.divide.ensures
    ∙ kernel_is c.args.ksize c.args.k.now c.weights-sum.new.k c.weights-sum.result c.requires.2 c.weights-sum.ensures.0 c.weights-sum.ensures.1
