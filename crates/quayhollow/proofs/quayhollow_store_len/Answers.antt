-- `quayhollow::quayhollow_store_len` meets its contract. Assumes nothing.
use mathlib.Core.Path.{sym, ◌∙◌}
use borrow.Author.Tests.{lt-ltb, le-ltb}
use Rattle.lists.proofs.Cases.{pick_true, pick_false}
use Rattle.lists.proofs.Every.{sides_fit}
use Rattle.quayhollow.specs.State.{store_length_of}
use Rattle.quayhollow.proofs.quayhollow_store_len.Goals as goal

pub returns-then-w-gt-MOST_SIDE : goal.returns-then-w-gt-MOST_SIDE
unfolding store_length_of
returns-then-w-gt-MOST_SIDE c = sym (pick_true _ _ _ (lt-ltb _ _ c.if-w-gt-MOST_SIDE.true))

pub returns-then-h-gt-MOST_SIDE : goal.returns-then-h-gt-MOST_SIDE
unfolding store_length_of
returns-then-h-gt-MOST_SIDE c = sym (pick_false _ _ _ (le-ltb _ _ c.if-w-gt-MOST_SIDE.false) ∙ pick_true _ _ _ (lt-ltb _ _ c.if-h-gt-MOST_SIDE.true))

pub overflow_mul-result : goal.overflow_mul-result
overflow_mul-result c = sides_fit _ _ c.if-w-gt-MOST_SIDE.false c.if-h-gt-MOST_SIDE.false

pub returns : goal.returns
unfolding store_length_of
returns c = sym (pick_false _ _ _ (le-ltb _ _ c.if-w-gt-MOST_SIDE.false) ∙ pick_false _ _ _ (le-ltb _ _ c.if-h-gt-MOST_SIDE.false))
