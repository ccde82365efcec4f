-- `checks::check` refuses a side above 4,096 first, then a zero side, then a wrong length, then what `settled` refuses. Assumes nothing.
use mathlib.Core.Path.{sym, ◌∙◌, ap}
use borrow.Author.Tests.{lt-ltb, le-ltb, eq-eqb, ne_eqb}
use Rattle.lists.proofs.Cases.{pick_true, pick_false}
use Rattle.lists.proofs.Every.{sides_fit}
use Rattle.refusals.specs.Refusals.{checked}
use Rattle.refusals.proofs.Numbered.{fails}
use Rattle.checks.specs.Checks.{check_of}
use Rattle.checks.proofs.check.Goals as goal

pub returns-then-w-gt-MOST_SIDE : goal.returns-then-w-gt-MOST_SIDE
unfolding check_of
returns-then-w-gt-MOST_SIDE c = fails _ _ tt (sym (pick_true _ _ _ (lt-ltb _ _ c.if-w-gt-MOST_SIDE.true)))

pub returns-then-h-gt-MOST_SIDE : goal.returns-then-h-gt-MOST_SIDE
unfolding check_of
returns-then-h-gt-MOST_SIDE c = fails _ _ tt (sym (pick_false _ _ _ (le-ltb _ _ c.if-w-gt-MOST_SIDE.false) ∙ pick_true _ _ _ (lt-ltb _ _ c.if-h-gt-MOST_SIDE.true)))

pub returns-then-w-eq0 : goal.returns-then-w-eq0
unfolding check_of
returns-then-w-eq0 c = fails _ _ tt (sym (pick_false _ _ _ (le-ltb _ _ c.if-w-gt-MOST_SIDE.false) ∙ pick_false _ _ _ (le-ltb _ _ c.if-h-gt-MOST_SIDE.false) ∙ pick_true _ _ _ (eq-eqb _ _ c.if-w-eq0.true)))

pub returns-then-h-eq0 : goal.returns-then-h-eq0
unfolding check_of
returns-then-h-eq0 c = fails _ _ tt (sym (pick_false _ _ _ (le-ltb _ _ c.if-w-gt-MOST_SIDE.false) ∙ pick_false _ _ _ (le-ltb _ _ c.if-h-gt-MOST_SIDE.false) ∙ pick_false _ _ _ (ne_eqb _ _ c.if-w-eq0.false) ∙ pick_true _ _ _ (eq-eqb _ _ c.if-h-eq0.true)))

pub overflow_mul-w : goal.overflow_mul-w
overflow_mul-w c = sides_fit _ _ c.if-w-gt-MOST_SIDE.false c.if-h-gt-MOST_SIDE.false

pub returns-then-template-w : goal.returns-then-template-w
unfolding check_of
returns-then-template-w c = fails _ _ tt (sym (pick_false _ _ _ (le-ltb _ _ c.if-w-gt-MOST_SIDE.false) ∙ pick_false _ _ _ (le-ltb _ _ c.if-h-gt-MOST_SIDE.false) ∙ pick_false _ _ _ (ne_eqb _ _ c.if-w-eq0.false) ∙ pick_false _ _ _ (ne_eqb _ _ c.if-h-eq0.false) ∙ pick_false _ _ _ (ne_eqb _ _ c.if-template-w.true)))

pub overflow_mul-w-2 : goal.overflow_mul-w-2
overflow_mul-w-2 c = sides_fit _ _ c.if-w-gt-MOST_SIDE.false c.if-h-gt-MOST_SIDE.false

pub returns-then-input-w : goal.returns-then-input-w
unfolding check_of
returns-then-input-w c = fails _ _ tt (sym (pick_false _ _ _ (le-ltb _ _ c.if-w-gt-MOST_SIDE.false) ∙ pick_false _ _ _ (le-ltb _ _ c.if-h-gt-MOST_SIDE.false) ∙ pick_false _ _ _ (ne_eqb _ _ c.if-w-eq0.false) ∙ pick_false _ _ _ (ne_eqb _ _ c.if-h-eq0.false) ∙ pick_true _ _ _ (eq-eqb _ _ c.if-template-w.false) ∙ pick_false _ _ _ (ne_eqb _ _ c.if-input-w.true)))

pub returns : goal.returns
unfolding check_of
returns c = c.limits.ensures ∙ ap checked (sym (pick_false _ _ _ (le-ltb _ _ c.if-w-gt-MOST_SIDE.false) ∙ pick_false _ _ _ (le-ltb _ _ c.if-h-gt-MOST_SIDE.false) ∙ pick_false _ _ _ (ne_eqb _ _ c.if-w-eq0.false) ∙ pick_false _ _ _ (ne_eqb _ _ c.if-h-eq0.false) ∙ pick_true _ _ _ (eq-eqb _ _ c.if-template-w.false) ∙ pick_true _ _ _ (eq-eqb _ _ c.if-input-w.false)))
