-- `quayhollow::put_state` meets its contract: the first checks decide, then the room. Assumes nothing.
use Rattle.std.specs.Prelude.{is_err}
use mathlib.Core.Path.{sym, ap, ◌∙◌}
use mathlib.Core.List.{[], ◌∷◌}
use native.Mathlib.Omega.{arith}
use borrow.Author.Tests.{not-true, not-false}
use lib.ListN.{length-set}
use Rattle.lists.proofs.Cases.{pick_true, pick_false}
use Rattle.quayhollow.specs.State.{state_after}
use Rattle.boundary.proofs.Front.{stored_front, short_front}
use Rattle.quayhollow.proofs.put_state.Goals as goal
use Rattle.refusals.proofs.Numbered.{fails_is}

pub returns-then-is_err : goal.returns-then-is_err
unfolding state_after
returns-then-is_err c = sym (pick_false _ _ _ (not-true _ (sym (c.is_err.ensures.value ∙ ap is_err c.entry.ensures ∙ fails_is _) ∙ c.if-is_err.true)))

pub returns-then-state-lt3 : goal.returns-then-state-lt3
unfolding state_after
returns-then-state-lt3 c =
    let a = c.args in
    short_front _ (1 ∷ a.w ∷ a.h ∷ []) c.if-state-lt3.true ∙ sym (pick_true _ _ _ (not-false _ (sym (c.is_err.ensures.value ∙ ap is_err c.entry.ensures ∙ fails_is _) ∙ c.if-is_err.false)))

pub bounds-state-1 : goal.bounds-state-1
bounds-state-1 c = simp length-set (omega arith)

pub bounds-state-2 : goal.bounds-state-2
bounds-state-2 c = simp length-set (omega arith)

pub returns : goal.returns
unfolding state_after
returns c =
    let a = c.args in
    stored_front _ (1 ∷ a.w ∷ a.h ∷ []) (omega arith) ∙ sym (pick_true _ _ _ (not-false _ (sym (c.is_err.ensures.value ∙ ap is_err c.entry.ensures ∙ fails_is _) ∙ c.if-is_err.false)))
