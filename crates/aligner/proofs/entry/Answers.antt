-- `aligner::entry` refuses a side above 4,096 first, then a wrong length, then a store that is too short. Assumes nothing.
use mathlib.Core.Path.{sym, ◌∙◌}
use borrow.Author.Tests.{lt-ltb, le-ltb, eq-eqb, ne_eqb}
use Rattle.lists.proofs.Cases.{pick_true, pick_false}
use Rattle.lists.proofs.Every.{sides_fit}
use Rattle.refusals.proofs.Numbered.{fails, passes}
use Rattle.aligner.specs.Aligner.{entry_of}
use Rattle.aligner.proofs.entry.Goals as goal

pub returns-then-w-gt-MOST_SIDE : goal.returns-then-w-gt-MOST_SIDE
unfolding entry_of
returns-then-w-gt-MOST_SIDE c = fails _ _ tt (sym (pick_true _ _ _ (lt-ltb _ _ c.if-w-gt-MOST_SIDE.true)))

pub returns-then-h-gt-MOST_SIDE : goal.returns-then-h-gt-MOST_SIDE
unfolding entry_of
returns-then-h-gt-MOST_SIDE c = fails _ _ tt (sym (pick_false _ _ _ (le-ltb _ _ c.if-w-gt-MOST_SIDE.false) ∙ pick_true _ _ _ (lt-ltb _ _ c.if-h-gt-MOST_SIDE.true)))

pub overflow_mul-w : goal.overflow_mul-w
overflow_mul-w c = sides_fit _ _ c.if-w-gt-MOST_SIDE.false c.if-h-gt-MOST_SIDE.false

pub returns-then-frame-w : goal.returns-then-frame-w
unfolding entry_of
returns-then-frame-w c = fails _ _ tt (sym (pick_false _ _ _ (le-ltb _ _ c.if-w-gt-MOST_SIDE.false) ∙ pick_false _ _ _ (le-ltb _ _ c.if-h-gt-MOST_SIDE.false) ∙ pick_false _ _ _ (ne_eqb _ _ c.if-frame-w.true)))

pub overflow_mul-w-2 : goal.overflow_mul-w-2
overflow_mul-w-2 c = sides_fit _ _ c.if-w-gt-MOST_SIDE.false c.if-h-gt-MOST_SIDE.false

pub returns-then-store-w : goal.returns-then-store-w
unfolding entry_of
returns-then-store-w c = fails _ _ tt (sym
    (pick_false _ _ _ (le-ltb _ _ c.if-w-gt-MOST_SIDE.false)
    ∙ pick_false _ _ _ (le-ltb _ _ c.if-h-gt-MOST_SIDE.false)
    ∙ pick_true _ _ _ (eq-eqb _ _ c.if-frame-w.false)
    ∙ pick_true _ _ _ (lt-ltb _ _ c.if-store-w.true)))

pub returns : goal.returns
unfolding entry_of
returns c = passes _ (sym
    (pick_false _ _ _ (le-ltb _ _ c.if-w-gt-MOST_SIDE.false)
    ∙ pick_false _ _ _ (le-ltb _ _ c.if-h-gt-MOST_SIDE.false)
    ∙ pick_true _ _ _ (eq-eqb _ _ c.if-frame-w.false)
    ∙ pick_false _ _ _ (le-ltb _ _ c.if-store-w.false)))
