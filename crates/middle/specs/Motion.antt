-- How far a point moves along an axis under a row of a matrix, in 1/256 pixel: document 02's 'exact image under the matrix's f32 entries, less the
-- point, times 256, rounded and held'. Definitions only. All is in whole units of 2 ^ -149, of which every finite f32 is a whole number.
use Rattle.std.specs.Prelude.{Bool, true, false, ℕ, ◌+◌, ◌*◌, ◌^◌, ℤ, Float}
use Rattle.std.specs.Float.Ieee.{unlike}
use Rattle.lists.specs.Marked.{pick}
use Rattle.floats.specs.Units.{units_of, sign_of}
use Rattle.middle.specs.Held.{difference_of}

-- the size of a value in units, if its sign is `back`, and else 0: what it adds to a sum, and what it takes away
abbrev pub share_of : Bool → Float → ℕ
share_of back x = pick (unlike (sign_of x) back) 0 (units_of x)

-- the point (a/2, b/2) and the row p, q, t: of the image p * a/2 + q * b/2 + t, times 256, what is added, and what is taken away
abbrev pub image_of : Bool → Float → ℕ → Float → ℕ → Float → ℕ
image_of back p a q b t = 128 * (share_of back p * a + share_of back q * b) + 256 * share_of back t

-- the image less a/2, times 256, to the nearest whole number, half away from zero, held
unfoldable pub motion_of : Float → ℕ → Float → ℕ → Float → ℤ
unfolding units_of difference_of
motion_of p a q b t = difference_of (image_of false p a q b t) (image_of true p a q b t + 128 * (2 ^ 149 * a)) (2 ^ 149)
