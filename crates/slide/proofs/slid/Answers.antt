-- `slide::slid` meets its contract. Assumes nothing.
use mathlib.Core.Path.{sym, ◌∙◌}
use Rattle.lists.proofs.Cases.{pick_true, pick_false}
use Rattle.slide.specs.Slide.{slid_of}
use Rattle.slide.proofs.slid.Goals as goal

pub returns-then-not-is_finite : goal.returns-then-not-is_finite
unfolding slid_of
returns-then-not-is_finite c = sym (pick_false _ _ _ (sym c.is_finite.ensures ∙ c.if-not-is_finite.true))

pub returns-then-not-is_finite-2 : goal.returns-then-not-is_finite-2
unfolding slid_of
returns-then-not-is_finite-2 c =
    sym (pick_true _ _ _ (sym c.is_finite.ensures ∙ c.if-not-is_finite.false)
    ∙ pick_false _ _ _ (sym c.is_finite-2.ensures ∙ c.if-not-is_finite-2.true))

pub returns : goal.returns
unfolding slid_of
returns c =
    sym (pick_true _ _ _ (sym c.is_finite.ensures ∙ c.if-not-is_finite.false)
    ∙ pick_true _ _ _ (sym c.is_finite-2.ensures ∙ c.if-not-is_finite-2.false))
