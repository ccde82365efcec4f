-- `solve::moved` meets its contract. Assumes nothing.
use mathlib.Core.Path.{sym, ◌∙◌}
use Rattle.lists.proofs.Cases.{pick_true, pick_false}
use Rattle.solve.specs.Solve.{moved_of}
use Rattle.solve.proofs.moved.Goals as goal

pub returns-then-is_pose : goal.returns-then-is_pose
unfolding moved_of
returns-then-is_pose c = sym (pick_true _ _ _ (sym c.is_pose.ensures ∙ c.if-is_pose.true))

pub returns : goal.returns
unfolding moved_of
returns c = sym (pick_false _ _ _ (sym c.is_pose.ensures ∙ c.if-is_pose.false))
