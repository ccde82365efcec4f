-- `quayhollow::remembered` meets its contract. Assumes nothing.
use mathlib.Core.Path.{sym, ◌∙◌}
use borrow.Author.Tests.{lt-ltb, le-ltb, eq-eqb, ne_eqb}
use Rattle.lists.proofs.Cases.{pick_true, pick_false}
use Rattle.quayhollow.specs.State.{remembered_of}
use Rattle.quayhollow.proofs.remembered.Goals as goal

pub returns-then-state-lt3 : goal.returns-then-state-lt3
unfolding remembered_of
returns-then-state-lt3 c = c.new.ensures ∙ sym (pick_true _ _ _ (lt-ltb _ _ c.if-state-lt3.true))

pub returns-then-state-eq0 : goal.returns-then-state-eq0
unfolding remembered_of
returns-then-state-eq0 c = c.new-then-state-eq0.ensures ∙ sym (pick_false _ _ _ (le-ltb _ _ c.if-state-lt3.false) ∙ pick_true _ _ _ (eq-eqb _ _ c.if-state-eq0.true))

pub returns : goal.returns
unfolding remembered_of
returns c = sym (pick_false _ _ _ (le-ltb _ _ c.if-state-lt3.false) ∙ pick_false _ _ _ (ne_eqb _ _ c.if-state-eq0.false))
