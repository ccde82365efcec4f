-- The driver numbers of a pose by its cosine and sine. Assumes nothing.
use mathlib.Core.Path.{◌≡◌, ◌∙◌}
use mathlib.Core.Bool.{true, ◌&&◌}
use Prim.Native.Nat.{ℕ}
use lib.Ieee.{Float, neg}
use lib.Ieee.Bits.{is_true}
use lib.Ieee.Scale.{finite}
use Rattle.lists.proofs.Cases.{pick_true}
use Rattle.floats.proofs.Within.{within_finite}
use Rattle.series.specs.Series.{cos_of, sin_of}
use Rattle.pose.specs.Pose.{is_pose, affine_from_theta_tx_ty, affine_matrix, posed_matrix}
use Rattle.pose.proofs.Tests.{pose_theta, pose_tx, pose_ty}
use Rattle.middle.specs.Motion.{motion_of}
use Rattle.driver.specs.Pins.{pin_of, finite_of, posed_of}

module _ (theta tx ty : Float) (a b : ℕ) (P : is_pose theta tx ty ≡ true) where
  all_finite : (finite theta && finite tx && finite ty) ≡ true
  all_finite = rw (is_true (finite theta) (within_finite theta 2 1 (pose_theta theta tx ty P)), is_true (finite tx) (pose_tx theta tx ty P), is_true (finite ty) (pose_ty theta tx ty P))

  matrix : posed_matrix theta tx ty ≡ affine_matrix theta tx ty
  unfolding posed_matrix
  matrix = pick_true _ _ _ P

  pub by_entries : posed_of theta tx ty a b ≡ record { dx = motion_of (cos_of theta) a (neg (sin_of theta)) b tx; dy = motion_of (cos_of theta) b (sin_of theta) a ty; turn = pin_of 8192 theta }
  unfolding posed_of finite_of affine_matrix affine_from_theta_tx_ty
  by_entries = pick_true _ _ _ all_finite ∙ rw matrix
