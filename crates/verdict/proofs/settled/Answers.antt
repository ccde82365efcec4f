-- `verdict::settled` meets its contract: where the last correlation is finite, the second test decides. Assumes nothing.
use mathlib.Core.Path.{sym, ◌∙◌}
use Rattle.verdict.proofs.Ends.{by_difference}
use Rattle.verdict.proofs.settled.Goals as goal

pub returns-then-is_finite : goal.returns-then-is_finite
returns-then-is_finite c =
    let a = c.args in
    by_difference a.rho a.last a.eps _ (sym c.is_finite.ensures ∙ c.if-is_finite.true) c.abs.ensures
