-- `pose::identity3` meets its contract. Assumes nothing.
use mathlib.Core.Path.{refl}
use Rattle.pose.specs.Pose.{identity3}
use Rattle.pose.proofs.identity3.Goals as goal

pub returns : goal.returns
unfolding identity3
returns c = refl
