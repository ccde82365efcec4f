-- The same of the three images that a pass warps: a frame made ready by the rules, and its gradients. Their numbers are finite, so nothing is asked of them. Definitions only.
use Rattle.std.specs.Prelude.{ℕ, ◌*◌, ◌≡◌, List, ℤ, length, Float}
use Rattle.lists.specs.Premises.{InRange, OddFilter, AreBytes}
use Rattle.gradients.specs.Gradients.{gradient_x, gradient_y}
use Rattle.prepare.specs.Prepared.{prepared_of}
use Rattle.pose.specs.Pose.{affine_from_theta_tx_ty}
use Rattle.pose.specs.declared.Map.{Map}
use Rattle.pose.specs.declared.Pose.{Pose}
use Rattle.places.specs.Point.{marks_of}
use Rattle.warp.specs.Warp.{warp_of}
use Rattle.moves.specs.Moves.{WholeMove, MovedBy}

-- an image and its gradients, each warped by the map, are moved
pub record ThreeMoved (tx ty : ℤ) (w h : ℕ) (map : Map) (img : List Float) : Type 0 where
  pub input : MovedBy tx ty w h img (warp_of img map w h) (marks_of map w h)
  pub gx : let src = gradient_x w h img in MovedBy tx ty w h src (warp_of src map w h) (marks_of map w h)
  pub gy : let src = gradient_y w h img in MovedBy tx ty w h src (warp_of src map w h) (marks_of map w h)

-- THE STATEMENT of frames: any frame of w by h bytes, resized to any sides and blurred by any filter that is taken
abbrev pub FramesMoveExactly : Type 0
FramesMoveExactly =
    (bytes : List ℕ) (w h tw th ksize : ℕ) (p : Pose) (tx ty : ℤ) → InRange w h → InRange tw th → OddFilter ksize → length bytes ≡ w * h → AreBytes bytes → WholeMove p tx ty
    → ThreeMoved tx ty tw th (affine_from_theta_tx_ty p) (prepared_of bytes w h tw th ksize)
