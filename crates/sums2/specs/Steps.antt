-- What the inner functions say of one pixel: what it adds to the sums. `part` has the warped gradients in its images 0 and 1, the centred template in its
-- image 3 and the centred image in its image 4, each of n numbers. Definitions only.
use Rattle.std.specs.Prelude.{ℕ, ◌+◌, ◌*◌, List, get_or, Float}
use Rattle.std.specs.Float.{nan}
use Rattle.floats.specs.F32.{◌⊕◌, ◌⊗◌}
use Rattle.inverse2.specs.declared.Vector2.{Vector2}
use Rattle.sums2.specs.declared.Seven.{Seven}

-- the products of a pixel's gx and gy with the image's pixel, with the template's and with themselves, added to s
abbrev pub seven_more : Seven → Float → Float → Float → Float → Seven
seven_more s gx gy i t = (s.0 ⊕ gx ⊗ i, s.1 ⊕ gy ⊗ i, s.2 ⊕ gx ⊗ t, s.3 ⊕ gy ⊗ t, s.4 ⊕ gx ⊗ gx, s.5 ⊕ gx ⊗ gy, s.6 ⊕ gy ⊗ gy)

-- those of the pixel i
abbrev pub seven_at : List Float → ℕ → Seven → ℕ → Seven
seven_at part n s i = seven_more s (get_or part i nan) (get_or part (n + i) nan) (get_or part (4 * n + i) nan) (get_or part (3 * n + i) nan)

-- s + j * v
abbrev pub scaled_more : Vector2 → Vector2 → Float → Vector2
scaled_more s j v = (s.0 ⊕ j.0 ⊗ v, s.1 ⊕ j.1 ⊗ v)
