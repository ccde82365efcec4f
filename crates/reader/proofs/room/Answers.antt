-- `reader::room` meets its contract. Assumes nothing.
use mathlib.Core.Path.{◌≡◌, sym, subst, ◌∙◌}
use mathlib.Core.Bool.{true, false}
use mathlib.Core.List.{[]}
use native.Mathlib.Omega.{arith}
use borrow.Author.Tests.{lt-ltb, le-ltb}
use lib.ListN.{take}
use Rattle.lists.proofs.Cases.{pick_true, pick_false}
use Rattle.ports.specs.Ports.{Handed, nothing_handed}
use Rattle.reader.specs.Run.{crowded, pushed_of, line_at}
use Rattle.reader.proofs.room.Goals as goal

pub returns-then-out-waits-lt100 : goal.returns-then-out-waits-lt100
unfolding pushed_of line_at
returns-then-out-waits-lt100 c =
    let a = c.args in
    let e : crowded a.out.now a.waits ≡ true = lt-ltb _ _ c.if-out-waits-lt100.true in (
      omega arith,
      c.flush.ensures.0 ∙ sym (pick_true _ _ _ e),
      subst Handed (sym (pick_true _ (take a.waits a.out.now) [] e)) c.flush.ensures.1,
    )

pub returns-else-out-waits-lt100 : goal.returns-else-out-waits-lt100
unfolding pushed_of line_at
returns-else-out-waits-lt100 c =
    let a = c.args in
    let e : crowded a.out.now a.waits ≡ false = le-ltb _ _ c.if-out-waits-lt100.false in
    (omega arith, sym (pick_false _ _ _ e), subst Handed (sym (pick_false _ (take a.waits a.out.now) [] e)) nothing_handed)
