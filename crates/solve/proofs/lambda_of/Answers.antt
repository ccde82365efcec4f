-- `solve::lambda_of` meets its contract. Assumes nothing.
use mathlib.Core.Path.{sym, ◌∙◌}
use Rattle.solve.proofs.Ratio.{not_above, divisor_endless, ratio_endless, ratio_stands}
use Rattle.solve.proofs.lambda_of.Goals as goal

pub returns-then-lambda_d : goal.returns-then-lambda_d
returns-then-lambda_d c = not_above _ _ _ c.if-lambda_d.true

pub returns-then-not-is_finite : goal.returns-then-not-is_finite
returns-then-not-is_finite c = divisor_endless _ _ _ c.if-lambda_d.false (sym c.is_finite.ensures ∙ c.if-not-is_finite.true)

pub returns-then-not-is_finite-2 : goal.returns-then-not-is_finite-2
returns-then-not-is_finite-2 c =
    ratio_endless _ _ _ c.if-lambda_d.false (sym c.is_finite.ensures ∙ c.if-not-is_finite.false)
    (sym c.is_finite-2.ensures ∙ c.if-not-is_finite-2.true)

pub returns : goal.returns
returns c =
    ratio_stands _ _ _ c.if-lambda_d.false (sym c.is_finite.ensures ∙ c.if-not-is_finite.false)
    (sym c.is_finite-2.ensures ∙ c.if-not-is_finite-2.false)
