-- `stream::finish` says done only where no body is being read over and no byte is left. Assumes nothing.
use mathlib.Core.Path.{sym, ◌∙◌}
use borrow.Author.Tests.{eq-eqb, ne_eqb}
use Rattle.lists.proofs.Cases.{pick_true, pick_false}
use Rattle.stream.specs.Stream.{end_of}
use Rattle.stream.proofs.finish.Goals as goal

pub returns-then-state-ne0 : goal.returns-then-state-ne0
unfolding end_of
returns-then-state-ne0 c = sym (pick_false _ _ _ (ne_eqb _ _ c.if-state-ne0.true))

pub returns-then-left-ne0 : goal.returns-then-left-ne0
unfolding end_of
returns-then-left-ne0 c = sym (pick_true _ _ _ (eq-eqb _ _ c.if-state-ne0.false) ∙ pick_false _ _ _ (ne_eqb _ _ c.if-left-ne0.true))

pub returns : goal.returns
unfolding end_of
returns c = sym (pick_true _ _ _ (eq-eqb _ _ c.if-state-ne0.false) ∙ pick_true _ _ _ (eq-eqb _ _ c.if-left-ne0.false))
