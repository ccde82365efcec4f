-- `series::exp_neg` meets its contract. Assumes nothing.
use Rattle.std.proofs.Common.{ℕ, ◌^◌, false, ap, ◌∙◌}
use lib.Ieee.{binary32, round}
use Rattle.series.specs.Recurrence.{steps_of}
use Rattle.series.specs.Series.{divisor_of, squared_of, exp_neg_of}
use Rattle.series.specs.declared.Series.TheVariants.{Exponential}
use Rattle.series.proofs.exp_neg.Goals as goal

pub returns : goal.returns
unfolding exp_neg_of
returns c =
    let e0 = c.steps-e.ensures.0 ∙ ap (λ (y : ℕ). steps_of (divisor_of Exponential) y 12 12) c.y_of.ensures.0 in
    let e1 = c.squared.ensures.0 ∙ ap squared_of e0 in
    let e2 = c.squared-2.ensures.0 ∙ ap squared_of e1 in
    let e3 = c.squared-3.ensures.0 ∙ ap squared_of e2 in
    c.over30.ensures ∙ ap (λ (e : ℕ). round binary32 false e (2 ^ 30)) e3
