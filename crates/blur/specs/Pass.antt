-- A pass of the blur in either direction, over any weights, and its steps: what the inner functions say. Definitions only.
use Rattle.std.specs.Prelude.{ℕ, ◌+◌, ◌*◌, List, get_or, Float}
use Rattle.std.specs.Float.{nan}
use Rattle.lists.specs.Lists.{tab, grid, put}
use Rattle.floats.specs.F32.{◌⊕◌, ◌⊗◌}
use Rattle.floats.specs.Sums.{sum_to}
use Rattle.blur.specs.Blur.{clamped_of}
use Rattle.blur.specs.declared.Along.{Along}
use Rattle.blur.specs.declared.Along.TheVariants.{Rows, Columns}

-- xs after a weight times the number at `spot i` is added to the number i of the n that begin at dst
unfoldable pub added_of : List Float → ℕ → ℕ → (ℕ → ℕ) → Float → List Float
added_of xs dst n spot weight = put xs dst (tab n (λ i. get_or xs (dst + i) nan ⊕ get_or xs (spot i) nan ⊗ weight))

-- where the tap k of the pixel x, y stands in the source
abbrev pub spot_of : Along → ℕ → ℕ → ℕ → ℕ → ℕ → ℕ → ℕ
spot_of Rows ksize w h x y k = y * w + clamped_of ksize w x k
spot_of Columns ksize w h x y k = clamped_of ksize h y k * w + x

-- what the first n taps of the pixel x, y add up to
unfoldable pub taps_of : Along → List Float → ℕ → ℕ → ℕ → List Float → ℕ → ℕ → ℕ → Float
taps_of along ks ksize w h src n x y = sum_to (λ k. get_or src (spot_of along ksize w h x y k) nan ⊗ get_or ks k nan) n

-- the whole pass
unfoldable pub sweep_of : Along → List Float → ℕ → ℕ → ℕ → List Float → List Float
sweep_of along ks ksize w h src = grid w h (taps_of along ks ksize w h src ksize)
