-- Document 000's gaussian_blur_separable: a pass along the rows, then one down the columns. Definitions only.
use Rattle.std.specs.Prelude.{ℕ, ◌+◌, ◌-◌, ◌*◌, ◌/◌, min, List, leb, get_or, Float}
use Rattle.std.specs.Float.{nan}
use Rattle.lists.specs.Lists.{grid}
use Rattle.lists.specs.Marked.{pick}
use Rattle.floats.specs.F32.{◌⊗◌}
use Rattle.floats.specs.Sums.{sum_to}
use Rattle.kernel.specs.Kernel.{kernel_of}

-- (p + k - radius).clamp(0, n - 1): `-` on whole numbers stops at 0
abbrev pub clamped_of : ℕ → ℕ → ℕ → ℕ → ℕ
clamped_of ksize n p k = min (p + k - ksize / 2) (n - 1)

-- tmp[y * w + x], the sum over k of src[y * w + xx] * kernel[k]
unfoldable pub rows_of : ℕ → ℕ → ℕ → List Float → List Float
rows_of ksize w h src = let kernel = kernel_of ksize in grid w h (λ x y. sum_to (λ k. get_or src (y * w + clamped_of ksize w x k) nan ⊗ get_or kernel k nan) ksize)

-- out[y * w + x], the sum over k of tmp[yy * w + x] * kernel[k]
unfoldable pub columns_of : ℕ → ℕ → ℕ → List Float → List Float
columns_of ksize w h tmp = let kernel = kernel_of ksize in grid w h (λ x y. sum_to (λ k. get_or tmp (clamped_of ksize h y k * w + x) nan ⊗ get_or kernel k nan) ksize)

-- gaussian_blur_separable(src, w, h, ksize): size 1 copies
unfoldable pub blur_of : ℕ → ℕ → ℕ → List Float → List Float
blur_of ksize w h src = pick (leb ksize 1) src (columns_of ksize w h (rows_of ksize w h src))
