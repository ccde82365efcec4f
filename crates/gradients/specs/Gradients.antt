-- Document 000's gradient_x and gradient_y. Definitions only.
use Rattle.std.specs.Prelude.{ℕ, ◌+◌, ◌-◌, ◌*◌, min, List, get_or, Float}
use Rattle.std.specs.Float.{nan}
use Rattle.lists.specs.Lists.{grid}
use Rattle.floats.specs.F32.{◌⊖◌, ◌⊗◌, half}

-- the neighbours of the place p on a side of n: l = if p == 0 { p } else { p - 1 }, r = if p + 1 >= n { p } else { p + 1 }.
-- `-` on whole numbers stops at 0, and p is below n
abbrev pub before_of : ℕ → ℕ
before_of p = p - 1

abbrev pub after_of : ℕ → ℕ → ℕ
after_of n p = min (p + 1) (n - 1)

-- out[y * w + x] = 0.5 * (src[y * w + r] - src[y * w + l])
unfoldable pub gradient_x : ℕ → ℕ → List Float → List Float
gradient_x w h src = grid w h (λ x y. half ⊗ (get_or src (y * w + after_of w x) nan ⊖ get_or src (y * w + before_of x) nan))

-- out[y * w + x] = 0.5 * (src[d * w + x] - src[u * w + x])
unfoldable pub gradient_y : ℕ → ℕ → List Float → List Float
gradient_y w h src = grid w h (λ x y. half ⊗ (get_or src (after_of h y * w + x) nan ⊖ get_or src (before_of y * w + x) nan))
