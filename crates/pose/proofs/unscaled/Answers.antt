-- `pose::unscaled` meets its contract. Assumes nothing.
use mathlib.Core.Path.{sym, ◌∙◌}
use Rattle.pose.proofs.Scaled.{first_endless, second_endless, stands}
use Rattle.pose.proofs.unscaled.Goals as goal

pub returns-then-not-is_finite : goal.returns-then-not-is_finite
returns-then-not-is_finite c = first_endless _ _ _ _ (sym c.is_finite.ensures ∙ c.if-not-is_finite.true)

pub returns-then-not-is_finite-2 : goal.returns-then-not-is_finite-2
returns-then-not-is_finite-2 c = second_endless _ _ _ _ (sym c.is_finite.ensures ∙ c.if-not-is_finite.false) (sym c.is_finite-2.ensures ∙ c.if-not-is_finite-2.true)

pub returns : goal.returns
returns c = stands _ _ _ _ (sym c.is_finite.ensures ∙ c.if-not-is_finite.false) (sym c.is_finite-2.ensures ∙ c.if-not-is_finite-2.false)
