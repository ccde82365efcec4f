-- `boundary::handed` meets its contract. Assumes nothing.
use mathlib.Core.Path.{sym}
use borrow.Author.Tests.{eq-eqb, ne_eqb}
use Rattle.lists.proofs.Cases.{pick_true, pick_false}
use Rattle.boundary.specs.Boundary.{handed_of}
use Rattle.boundary.proofs.handed.Goals as goal

pub returns-then-number-eq0 : goal.returns-then-number-eq0
unfolding handed_of
returns-then-number-eq0 c = sym (pick_true _ _ _ (eq-eqb _ _ c.if-number-eq0.true))

pub returns : goal.returns
unfolding handed_of
returns c = sym (pick_false _ _ _ (ne_eqb _ _ c.if-number-eq0.false))
