-- `series::cos` meets its contract. Assumes nothing.
use Rattle.std.proofs.Common.{◌≡◌, ℕ, ◌-◌, ◌*◌, ◌/◌, ◌^◌, sym, ap, ◌∙◌}
use lib.IntN.{sub_ℕ}
use lib.Ieee.{Float, binary32, neg}
use Rattle.floats.proofs.Within.{round_neg}
use Rattle.series.specs.Recurrence.{steps_of}
use Rattle.series.specs.Series.{divisor_of, z_of, over30_of, cos_of}
use Rattle.series.specs.declared.Series.TheVariants.{Cosine}
use Rattle.series.proofs.Signed.{not_below, below}
use Rattle.series.proofs.cos.Goals as goal

-- U after the last step
cos_is : (theta : Float) (z u : ℕ) → z ≡ z_of theta → u ≡ steps_of (divisor_of Cosine) z 8 7 → over30_of (sub_ℕ (2 ^ 30) (z * u / 2147483648)) ≡ cos_of theta
unfolding cos_of
cos_is theta z u h k =
    ap (λ (v : ℕ). over30_of (sub_ℕ (2 ^ 30) (z * v / 2147483648))) k ∙ ap (λ (y : ℕ). over30_of (sub_ℕ (2 ^ 30) (y * steps_of (divisor_of Cosine) y 8 7 / 2147483648))) h

pub returns-then-w-le1073741824 : goal.returns-then-w-le1073741824
returns-then-w-le1073741824 c =
    let u_is : over30_of (sub_ℕ (2 ^ 30) (c.z_of-z.result * c.steps.result / 2147483648)) ≡ cos_of c.args.theta =
    cos_is c.args.theta c.z_of-z.result c.steps.result c.z_of-z.ensures.0 c.steps.ensures.0 in
    c.over30.ensures ∙ sym (not_below (c.z_of-z.result * c.steps.result / 2147483648) c.if-w-le1073741824.true) ∙ u_is

pub returns-else-w-le1073741824 : goal.returns-else-w-le1073741824
returns-else-w-le1073741824 c =
    let u_is : over30_of (sub_ℕ (2 ^ 30) (c.z_of-z.result * c.steps.result / 2147483648)) ≡ cos_of c.args.theta =
    cos_is c.args.theta c.z_of-z.result c.steps.result c.z_of-z.ensures.0 c.steps.ensures.0 in
    let w = c.z_of-z.result * c.steps.result / 2147483648 in
    ap neg c.over30-else-w-le1073741824.ensures ∙ sym (round_neg binary32 (w - 2 ^ 30) (2 ^ 30)) ∙ sym (below w c.if-w-le1073741824.false) ∙ u_is
