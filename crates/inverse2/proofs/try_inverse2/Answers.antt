-- `inverse2::try_inverse2` meets its contract. Assumes nothing.
use mathlib.Core.Path.{sym}
use Rattle.lists.proofs.Cases.{pick_true, pick_false}
use Rattle.inverse2.specs.Inverse.{inverse2_of}
use Rattle.inverse2.proofs.try_inverse2.Goals as goal

pub returns-then-d : goal.returns-then-d
unfolding inverse2_of
returns-then-d c = sym (pick_true _ _ _ c.if-d.true)

pub returns : goal.returns
unfolding inverse2_of
returns c = sym (pick_false _ _ _ c.if-d.false)
