-- Why the statement asks for finite numbers, and why it makes an exception of -0: two sources of 2 by 2 pixels, at rest. Definitions only.
use Rattle.std.specs.Prelude.{◌≡◌, false, List, [], ◌∷◌, Float}
use Rattle.std.specs.Float.{nan, inf}
use Rattle.std.specs.Float.Ieee.{neg}
use Rattle.floats.specs.F32.{0f, 1f}
use Rattle.pose.specs.Pose.{affine_from_theta_tx_ty}
use Rattle.warp.specs.Warp.{warp_of}

-- the pose at rest: only the first of the 2 by 2 pixels is marked
abbrev pub at_rest : List Float → List Float
at_rest src = warp_of src (affine_from_theta_tx_ty (record { theta = 0f; tx = 0f; ty = 0f })) 2 2

-- beside an infinite number 1 comes back as a NaN: the number's weight is 0, but infinity times 0 is a NaN
abbrev pub InfinityBeside : Type 0
InfinityBeside = at_rest (1f ∷ inf false ∷ 1f ∷ 1f ∷ []) ≡ nan ∷ 0f ∷ 0f ∷ 0f ∷ []

-- beside a number above 0, -0 comes back as +0
abbrev pub ZeroBeside : Type 0
ZeroBeside = at_rest (neg 0f ∷ 1f ∷ 1f ∷ 1f ∷ []) ≡ 0f ∷ 0f ∷ 0f ∷ 0f ∷ []
