-- A pass over prepared frames: their numbers are within 2 ^ 22, a warped one within 2 ^ 26, and there are at most 2 ^ 24 of them. Assumes nothing.
use native.Mathlib.Nat.{mul-le-mul}
use lib.Dec.{lit≤}
use Rattle.prepare.specs.Prepared.{prepared_of}
use Rattle.prepare.proofs.Bounds.{prepared_bytes_within}
use Rattle.pose.specs.Pose.{affine_from_theta_tx_ty}
use Rattle.places.specs.Point.{marks_of}
use Rattle.warp.specs.Warp.{warp_of}
use Rattle.warp.proofs.Bounds.{warp_within}
use Rattle.verdict.proofs.Finite.{rho_is_finite}
use Rattle.seven.specs.Passes.{PassNeverSeven, FramesNeverSeven}

pub pass_never : PassNeverSeven
pass_never template input w h p W H ht hi =
    let map = affine_from_theta_tx_ty p in
    rho_is_finite (marks_of map w h) _ 22 26 template (warp_of input map w h) (mul-le-mul W H) (lit≤ tt) (lit≤ tt) (lit≤ tt) ht (warp_within input map w h 22 (lit≤ tt) W H hi)

pub frames_never : FramesNeverSeven
frames_never template input w h tw th ksize p r s f et ei bt bi =
    pass_never (prepared_of template w h tw th ksize) (prepared_of input w h tw th ksize) tw th p s.w_most s.h_most
    (prepared_bytes_within template w h tw th ksize r s f et bt)
    (prepared_bytes_within input w h tw th ksize r s f ei bi)
