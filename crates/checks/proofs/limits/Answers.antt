-- `checks::limits` refuses an even filter first, then a long filter, then many passes, then short room. Assumes nothing.
use mathlib.Core.Path.{sym, ◌∙◌, ap}
use borrow.Author.Tests.{lt-ltb, le-ltb, eq-eqb, ne_eqb}
use Rattle.lists.proofs.Cases.{pick_true, pick_false}
use Rattle.refusals.specs.Refusals.{checked}
use Rattle.refusals.proofs.Numbered.{fails}
use Rattle.checks.specs.Checks.{limits_of}
use Rattle.checks.proofs.limits.Goals as goal

pub returns-then-ksize-eq0 : goal.returns-then-ksize-eq0
unfolding limits_of
returns-then-ksize-eq0 c = fails _ _ tt (sym (pick_true _ _ _ (eq-eqb _ _ c.if-ksize-eq0.true)))

pub returns-then-ksize-gt-MOST_FILTER : goal.returns-then-ksize-gt-MOST_FILTER
unfolding limits_of
returns-then-ksize-gt-MOST_FILTER c = fails _ _ tt (sym (pick_false _ _ _ (ne_eqb _ _ c.if-ksize-eq0.false) ∙ pick_true _ _ _ (lt-ltb _ _ c.if-ksize-gt-MOST_FILTER.true)))

pub returns-then-cfg-gt-MOST_PASSES : goal.returns-then-cfg-gt-MOST_PASSES
unfolding limits_of
returns-then-cfg-gt-MOST_PASSES c = fails _ _ tt (sym (pick_false _ _ _ (ne_eqb _ _ c.if-ksize-eq0.false) ∙ pick_false _ _ _ (le-ltb _ _ c.if-ksize-gt-MOST_FILTER.false) ∙ pick_true _ _ _ (lt-ltb _ _ c.if-cfg-gt-MOST_PASSES.true)))

pub returns : goal.returns
unfolding limits_of
returns c = c.room.ensures ∙ ap checked (sym (pick_false _ _ _ (ne_eqb _ _ c.if-ksize-eq0.false) ∙ pick_false _ _ _ (le-ltb _ _ c.if-ksize-gt-MOST_FILTER.false) ∙ pick_false _ _ _ (le-ltb _ _ c.if-cfg-gt-MOST_PASSES.false)))
