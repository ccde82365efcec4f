-- `verdict::judge` meets its contract: one case for each of its five ends. Assumes nothing.
use mathlib.Core.Path.{sym, ◌∙◌}
use Rattle.verdict.proofs.Ends.{flat_template, flat_image, rho_endless, rho_settled, rho_open}
use Rattle.verdict.proofs.judge.Goals as goal

pub returns-then-s : goal.returns-then-s
returns-then-s c = flat_template _ _ _ c.if-s.true

pub returns-then-s-2 : goal.returns-then-s-2
returns-then-s-2 c = flat_image _ _ _ c.if-s.false c.if-s-2.true

pub returns-then-not-is_finite : goal.returns-then-not-is_finite
returns-then-not-is_finite c = rho_endless _ _ _ c.if-s.false c.if-s-2.false (sym c.is_finite.ensures ∙ c.if-not-is_finite.true)

pub returns-then-settled : goal.returns-then-settled
returns-then-settled c = rho_settled _ _ _ c.if-s.false c.if-s-2.false (sym c.is_finite.ensures ∙ c.if-not-is_finite.false) (sym c.settled.ensures ∙ c.if-settled.true)

pub returns : goal.returns
returns c = rho_open _ _ _ c.if-s.false c.if-s-2.false (sym c.is_finite.ensures ∙ c.if-not-is_finite.false) (sym c.settled.ensures ∙ c.if-settled.false)
