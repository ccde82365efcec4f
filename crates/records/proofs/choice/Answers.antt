-- `records::choice` takes 0 for none. Assumes nothing.
use mathlib.Core.Path.{sym}
use borrow.Author.Tests.{eq-eqb, ne_eqb}
use Rattle.lists.proofs.Cases.{pick_true, pick_false}
use Rattle.records.specs.Reading.{choice_of}
use Rattle.records.proofs.choice.Goals as goal

pub returns-then-edge-eq0 : goal.returns-then-edge-eq0
unfolding choice_of
returns-then-edge-eq0 c = sym (pick_true _ _ _ (eq-eqb _ _ c.if-edge-eq0.true))

pub returns-else-edge-eq0 : goal.returns-else-edge-eq0
unfolding choice_of
returns-else-edge-eq0 c = sym (pick_false _ _ _ (ne_eqb _ _ c.if-edge-eq0.false))
