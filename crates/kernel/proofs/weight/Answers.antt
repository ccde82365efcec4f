-- `kernel::weight` meets its contract. Assumes nothing.
use mathlib.Core.Path.{◌≡◌, sym, ap, ◌∙◌, subst}
use native.Mathlib.Omega.{arith}
use lib.Ieee.{Float}
use Rattle.floats.specs.Bound.{UpTo}
use Rattle.floats.specs.F32.{◌⊘◌}
use Rattle.series.specs.Series.{exp_neg_of}
use Rattle.kernel.specs.Kernel.{weight_of}
use Rattle.kernel.proofs.Kernels.{exponent_of, exponent_up_to}
use Rattle.kernel.proofs.weight.Goals as goal

pub exp_neg-requires : goal.exp_neg-requires
exp_neg-requires c =
    let exponent_is : c.to_f32.result ⊘ c.args.d ≡ exponent_of c.args.ksize c.off-x.result =
    cc in
    let x = c.off-x.result in
    subst (λ (e : Float). UpTo e 6 1) (sym exponent_is) (exponent_up_to c.args.ksize x c.requires.1.most c.requires.1.odd (omega arith))

pub returns : goal.returns
unfolding weight_of
returns c =
    let exponent_is : c.to_f32.result ⊘ c.args.d ≡ exponent_of c.args.ksize c.off-x.result =
    cc in
    let ksize = c.args.ksize in
    c.exp_neg.ensures ∙ ap exp_neg_of (exponent_is ∙ ap (exponent_of ksize) c.off-x.ensures.0)
