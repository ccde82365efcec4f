-- `pose::affine_from_theta_tx_ty` meets its contract. Assumes nothing.
use Rattle.pose.specs.Pose.{affine_from_theta_tx_ty}
use Rattle.pose.proofs.affine_from_theta_tx_ty.Goals as goal

pub returns : goal.returns
unfolding affine_from_theta_tx_ty
returns c = cc
