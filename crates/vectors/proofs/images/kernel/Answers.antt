-- `vectors::images::kernel` meets its contract. Assumes nothing.
use mathlib.Core.Path.{◌∙◌}
use Rattle.vectors.proofs.Stages.{kernel_told}
use Rattle.vectors.proofs.images.kernel.Goals as goal

pub returns : goal.returns
returns c = c.same_floats.ensures ∙ kernel_told c.args.words.now _ c.in-Some.ensures c.if-ksize-lt3.false _ _ c.gaussian_kernel.ensures
