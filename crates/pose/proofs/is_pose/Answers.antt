-- `pose::is_pose` meets its contract. Assumes nothing.
use mathlib.Core.Path.{sym, ◌∙◌}
use Rattle.pose.specs.Pose.{is_pose}
use Rattle.pose.proofs.Tests.{last_of, third_fails, second_fails, first_fails}
use Rattle.pose.proofs.is_pose.Goals as goal

pub returns-then-is_finite : goal.returns-then-is_finite
unfolding is_pose
returns-then-is_finite c = c.is_finite-then-is_finite.ensures ∙ last_of _ _ _ _ c.if-theta.true c.if-theta-2.true (sym c.is_finite.ensures ∙ c.if-is_finite.true)

pub returns-then-theta-2 : goal.returns-then-theta-2
unfolding is_pose
returns-then-theta-2 c = third_fails _ _ _ _ c.if-theta.true c.if-theta-2.true (sym c.is_finite.ensures ∙ c.if-is_finite.false)

pub returns-then-theta : goal.returns-then-theta
unfolding is_pose
returns-then-theta c = second_fails _ _ _ _ c.if-theta.true c.if-theta-2.false

pub returns : goal.returns
unfolding is_pose
returns c = first_fails _ _ _ _ c.if-theta.false
