-- What the inner functions say of one pixel: its j, and what it adds to the sums. `part` has the warped gradients in its images 0 and 1 and j0 in
-- its image 5, each of n numbers. Definitions only.
use Rattle.std.specs.Prelude.{ℕ, ◌+◌, ◌*◌, List, get_or, Float}
use Rattle.std.specs.Float.{nan}
use Rattle.floats.specs.F32.{◌⊕◌, ◌⊗◌}
use Rattle.inverse.specs.declared.Vector3.{Vector3}

-- j of the pixel i
abbrev pub j_at : List Float → ℕ → ℕ → Vector3
j_at part n i = (get_or part (5 * n + i) nan, get_or part i nan, get_or part (n + i) nan)

-- s + j * v
abbrev pub scaled_more : Vector3 → Vector3 → Float → Vector3
scaled_more s j v = (s.0 ⊕ j.0 ⊗ v, s.1 ⊕ j.1 ⊗ v, s.2 ⊕ j.2 ⊗ v)
