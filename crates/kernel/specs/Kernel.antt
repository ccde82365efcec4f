-- Document 000's gaussian_kernel with document 01's e^-a. Definitions only.
use Rattle.std.specs.Prelude.{ℕ, ◌+◌, ◌-◌, ◌*◌, ◌/◌, List, Float}
use Rattle.std.specs.Float.{binary32}
use Rattle.std.specs.Float.Ieee.{of_bits}
use Rattle.lists.specs.Lists.{tab}
use Rattle.floats.specs.F32.{◌⊕◌, ◌⊖◌, ◌⊗◌, ◌⊘◌, f32, 1f, half, 2f}
use Rattle.floats.specs.Sums.{sum_to}
use Rattle.series.specs.Series.{exp_neg_of}

-- sigma = 0.3 * ((ksize as f32 - 1.0) * 0.5 - 1.0) + 0.8
unfoldable pub sigma_of : ℕ → Float
sigma_of ksize = of_bits binary32 0x3e99_999a ⊗ ((f32 ksize ⊖ 1f) ⊗ half ⊖ 1f) ⊕ of_bits binary32 0x3f4c_cccd

-- how far i is from the radius: the size of x = i - radius
abbrev pub off_of : ℕ → ℕ → ℕ
off_of ksize i = i - ksize / 2 + (ksize / 2 - i)

-- v = (-((x * x) as f32) / (2.0 * sigma * sigma)).exp()
unfoldable pub weight_of : ℕ → ℕ → Float
weight_of ksize i = exp_neg_of (f32 (off_of ksize i * off_of ksize i) ⊘ (2f ⊗ sigma_of ksize ⊗ sigma_of ksize))

-- each weight over their sum
unfoldable pub kernel_of : ℕ → List Float
kernel_of ksize = let sum = sum_to (weight_of ksize) ksize in tab ksize (λ i. weight_of ksize i ⊘ sum)
