-- `blur::gaussian_blur_separable` meets its contract. Assumes nothing.
use mathlib.Core.Path.{◌≡◌}
use lib.ListN.{take}
use Rattle.kernel.specs.Kernel.{kernel_of}
use Rattle.blur.proofs.Passes.{front_is, both}
use Rattle.blur.proofs.gaussian_blur_separable.Goals as goal

pub returns : goal.returns
returns c =
    let kernel : take c.args.ksize c.gaussian_kernel.new.k ≡ kernel_of c.args.ksize =
    front_is c.args.ksize _ _ c.gaussian_kernel.ensures in
    let a = c.args in
    both a.ksize a.w a.h _ a.part.now _ _ kernel c.requires.3 c.blur_pass.ensures c.blur_pass-2.ensures
