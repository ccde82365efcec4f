-- The bilinear weights of document 000's warp. Definitions only.
use Rattle.std.specs.Prelude.{Float}
use Rattle.floats.specs.F32.{◌⊕◌, ◌⊖◌, ◌⊗◌, 1f}

-- p00 * w00 + p01 * w01 + p10 * w10 + p11 * w11, with w00 = (1.0 - wx) * (1.0 - wy), w01 = wx * (1.0 - wy), w10 = (1.0 - wx) * wy, w11 = wx * wy
unfoldable pub four_of : Float → Float → Float → Float → Float → Float → Float
four_of p00 p01 p10 p11 wx wy = p00 ⊗ ((1f ⊖ wx) ⊗ (1f ⊖ wy)) ⊕ p01 ⊗ (wx ⊗ (1f ⊖ wy)) ⊕ p10 ⊗ ((1f ⊖ wx) ⊗ wy) ⊕ p11 ⊗ (wx ⊗ wy)
