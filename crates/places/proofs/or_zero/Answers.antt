-- `places::or_zero` meets its contract. Assumes nothing.
use mathlib.Core.Path.{sym}
use Rattle.lists.proofs.Cases.{pick_true, pick_false}
use Rattle.places.proofs.or_zero.Goals as goal

pub returns-then-holds : goal.returns-then-holds
returns-then-holds c = sym (pick_true c.args.holds _ _ c.if-holds.true)

pub returns-else-holds : goal.returns-else-holds
returns-else-holds c = sym (pick_false c.args.holds _ _ c.if-holds.false)
