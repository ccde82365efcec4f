-- `vectors::images::blurred` meets its contract. Assumes nothing.
use mathlib.Core.Path.{◌∙◌}
use native.Mathlib.Omega.{arith}
use Rattle.vectors.proofs.Stages.{blur_told}
use Rattle.vectors.proofs.images.blurred.Goals as goal

pub returns : goal.returns
returns c =
    let s = c.in-Some.s in
    c.same_floats.ensures ∙ blur_told c.args.words.now c.in-Some.ensures _ c.in-Some-filter.ensures c.if-ksize-lt3.false _ _ _ (omega (arith, c.in-Some.ensures.few)) c.floats.ensures c.gaussian_blur_separable.ensures
