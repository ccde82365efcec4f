-- `series::sin` meets its contract. Assumes nothing.
use Rattle.std.proofs.Common.{ℕ, ◌^◌, false, ap, ◌∙◌}
use lib.Ieee.{Float, binary32, mul, round}
use Rattle.series.specs.Recurrence.{steps_of}
use Rattle.series.specs.Series.{divisor_of, sin_of}
use Rattle.series.specs.declared.Series.TheVariants.{Sine}
use Rattle.series.proofs.sin.Goals as goal

pub returns : goal.returns
unfolding sin_of
returns c =
    let theta = c.args.theta in
    let w = c.steps.ensures.0 ∙ ap (λ (z : ℕ). steps_of (divisor_of Sine) z 8 8) c.z_of.ensures.0 in
    ap (λ (x : Float). mul binary32 x theta) (c.over30.ensures ∙ ap (λ (v : ℕ). round binary32 false v (2 ^ 30)) w)
