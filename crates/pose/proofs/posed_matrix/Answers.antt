-- `pose::posed_matrix` meets its contract. Assumes nothing.
use mathlib.Core.Path.{sym, ◌∙◌}
use Rattle.lists.proofs.Cases.{pick_true, pick_false}
use Rattle.pose.specs.Pose.{posed_matrix}
use Rattle.pose.proofs.Tests.{pose_theta}
use Rattle.pose.proofs.posed_matrix.Goals as goal

pub turned-requires : goal.turned-requires
turned-requires c = pose_theta _ _ _ (sym c.is_pose.ensures ∙ c.if-is_pose.true)

pub returns-then-is_pose : goal.returns-then-is_pose
unfolding posed_matrix
returns-then-is_pose c = c.turned.ensures ∙ sym (pick_true _ _ _ (sym c.is_pose.ensures ∙ c.if-is_pose.true))

pub returns-else-is_pose : goal.returns-else-is_pose
unfolding posed_matrix
returns-else-is_pose c = c.identity3.ensures ∙ sym (pick_false _ _ _ (sym c.is_pose.ensures ∙ c.if-is_pose.false))
