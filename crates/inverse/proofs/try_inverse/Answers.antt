-- `inverse::try_inverse` meets its contract. Assumes nothing.
use Rattle.std.specs.Prelude.{Some}
use mathlib.Core.Path.{sym, ap, ◌∙◌}
use Rattle.lists.proofs.Cases.{pick_true, pick_false}
use Rattle.inverse.specs.Inverse.{inverse_of}
use Rattle.inverse.proofs.try_inverse.Goals as goal

pub returns-then-d : goal.returns-then-d
unfolding inverse_of
returns-then-d c = sym (pick_true _ _ _ c.if-d.true)

pub returns : goal.returns
unfolding inverse_of
returns c = ap Some c.over.ensures ∙ sym (pick_false _ _ _ c.if-d.false)
