-- `checks::room` refuses work below 12n floats and marks below the words of n. Assumes nothing.
use Prim.Native.Nat.{ℕ}
use mathlib.Core.Path.{sym, ◌∙◌}
use native.Mathlib.Omega.{arith}
use borrow.Author.Tests.{lt-ltb, le-ltb}
use Rattle.lists.specs.Marked.{words_for}
use Rattle.lists.proofs.Cases.{pick_true, pick_false}
use Rattle.refusals.proofs.Numbered.{fails, passes}
use Rattle.checks.specs.Checks.{room_of}
use Rattle.checks.proofs.room.Goals as goal

pub returns-then-work-n : goal.returns-then-work-n
unfolding room_of
returns-then-work-n c = fails _ _ tt (rw (sym c.size-n.ensures.0) (sym (pick_true _ _ _ (lt-ltb _ _ c.if-work-n.true))))

pub overflow_add-n : goal.overflow_add-n
overflow_add-n c = omega (arith, c.size-n.ensures.1)

pub returns-then-marks-n : goal.returns-then-marks-n
unfolding room_of
returns-then-marks-n c = fails _ _ tt (
    let needed : ℕ =
    words_for c.size-n.result in
    rw (sym c.size-n.ensures.0) (sym (pick_false _ _ _ (le-ltb _ _ c.if-work-n.false) ∙ pick_true _ _ _ (lt-ltb _ needed (omega (arith, c.if-marks-n.true))))))

pub returns : goal.returns
unfolding room_of
returns c = passes _ (
    let needed : ℕ =
    words_for c.size-n.result in
    rw (sym c.size-n.ensures.0) (sym (pick_false _ _ _ (le-ltb _ _ c.if-work-n.false) ∙ pick_false _ _ _ (le-ltb _ needed (omega (arith, c.if-marks-n.false))))))
