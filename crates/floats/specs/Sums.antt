-- Sums of f32, from +0, in order, each addition rounded. Definitions only.
use Rattle.std.specs.Prelude.{ℕ, Bool, true, Float}
use Rattle.lists.specs.Marked.{over_marked}
use Rattle.floats.specs.F32.{◌⊕◌, 0f}

-- f i over the places i below n that m marks
unfoldable pub sum_over : (ℕ → Bool) → (ℕ → Float) → ℕ → Float
sum_over m f n = over_marked m (λ s i. s ⊕ f i) 0f n

-- f 0 + f 1 + .. + f (n - 1)
unfoldable pub sum_to : (ℕ → Float) → ℕ → Float
sum_to f n = sum_over (λ i. true) f n
