-- `pose::turned` meets its contract: the six entries of the map, and the last row. Assumes nothing.
use mathlib.Core.Path.{ap}
use Rattle.pose.specs.Pose.{affine_from_theta_tx_ty, affine_matrix}
use Rattle.pose.specs.declared.Map.{Map}
use Rattle.floats.specs.F32.{0f, 1f}
use Rattle.pose.proofs.turned.Goals as goal

pub returns : goal.returns
unfolding affine_from_theta_tx_ty affine_matrix
returns c =
    ap (λ (m : Map). record { m00 = m.m00; m01 = m.m01; m02 = m.m02; m10 = m.m10; m11 = m.m11; m12 = m.m12; m20 = 0f; m21 = 0f; m22 = 1f })
    c.affine_from_theta_tx_ty-map.ensures
