-- Sums of f32: their start and turn, what they depend on, that they are f32, and their bound. Assumes nothing.
use mathlib.Core.Path.{◌≡◌, refl, ap}
use mathlib.Core.Bool.{Bool, true, false}
use Prim.Native.Nat.{ℕ, ◌+◌, ◌*◌, ◌^◌, ◌≤◌, ◌<◌}
use native.Mathlib.Nat.{mul-le-mul_right}
use native.Mathlib.Omega.{arith}
use lib.Dec.{T, lit<}
use lib.Ieee.{Float, binary32, fits, of_bits}
use lib.Ieee.Bits.{of_bits-fits}
use lib.Ieee.Fits.{add-fits}
use Rattle.lists.specs.Marked.{count_marked}
use Rattle.lists.proofs.Fold.{over_none, over_marked_lem, over_passed, over_agree, counted_le, over_counted}
use Rattle.floats.specs.Bound.{Within}
use Rattle.floats.specs.F32.{◌⊕◌, 0f}
use Rattle.floats.specs.Sums.{sum_over, sum_to}
use Rattle.floats.proofs.Within.{sum_step, within_more}

-- ---- over marked places
pub sum_none : (m : ℕ → Bool) (f : ℕ → Float) → sum_over m f 0 ≡ 0f
unfolding sum_over
sum_none m f = over_none m (λ s i. s ⊕ f i) 0f

pub sum_marked : (m : ℕ → Bool) (f : ℕ → Float) (i : ℕ) → m i ≡ true → sum_over m f (i + 1) ≡ sum_over m f i ⊕ f i
unfolding sum_over
sum_marked m f i e = over_marked_lem m (λ s i. s ⊕ f i) 0f i e

pub sum_passed : (m : ℕ → Bool) (f : ℕ → Float) (i : ℕ) → m i ≡ false → sum_over m f (i + 1) ≡ sum_over m f i
unfolding sum_over
sum_passed m f i e = over_passed m (λ s i. s ⊕ f i) 0f i e

pub sum_agree : (m m' : ℕ → Bool) (f g : ℕ → Float) (n : ℕ) → ((i : ℕ) → i < n → m i ≡ m' i) → ((i : ℕ) → i < n → m i ≡ true → f i ≡ g i) → sum_over m f n ≡ sum_over m' g n
unfolding sum_over
sum_agree m m' f g n e h = over_agree m m' (λ s i. s ⊕ f i) (λ s i. s ⊕ g i) 0f n e (λ t i l k. ap (λ (x : Float). t ⊕ x) (h i l k))

-- ---- over all places
pub to_none : (f : ℕ → Float) → sum_to f 0 ≡ 0f
unfolding sum_to
to_none f = sum_none (λ i. true) f

pub to_more : (f : ℕ → Float) (i : ℕ) → sum_to f (i + 1) ≡ sum_to f i ⊕ f i
unfolding sum_to
to_more f i = sum_marked (λ i. true) f i refl

pub to_agree : (f g : ℕ → Float) (n : ℕ) → ((i : ℕ) → i < n → f i ≡ g i) → sum_to f n ≡ sum_to g n
unfolding sum_to
to_agree f g n e = sum_agree (λ i. true) (λ i. true) f g n (λ i l. refl) (λ i l k. e i l)

-- ---- a sum is an f32, whatever its terms
pub sum_fits : (m : ℕ → Bool) (f : ℕ → Float) (n : ℕ) → T (fits binary32 (sum_over m f n))
unfolding sum_over
sum_fits m f n = over_counted (λ x c. T (fits binary32 x)) m (λ s i. s ⊕ f i) 0f (of_bits-fits binary32 0) n (λ t i c l C e w. add-fits binary32 t (f i))

pub to_fits : (f : ℕ → Float) (n : ℕ) → T (fits binary32 (sum_to f n))
unfolding sum_to
to_fits f n = sum_fits (λ i. true) f n

-- ---- THE BOUND: up to 2 ^ 24 terms of size at most 2 ^ k sum to at most their number times 2 ^ k
zero_within : (k : ℕ) → Within 0f (0 * 2 ^ k) 1
unfolding of_bits
zero_within k = omega arith

-- the number of marked places
pub sum_within_count : (k : ℕ) → k ≤ 103 → (m : ℕ → Bool) (f : ℕ → Float) (n : ℕ) → n ≤ 2 ^ 24 → ((i : ℕ) → i < n → m i ≡ true → Within (f i) (2 ^ k) 1) → Within (sum_over m f n) (count_marked m n * 2 ^ k) 1
unfolding sum_over
sum_within_count k K m f n N h =
    over_counted (λ x c. Within x (c * 2 ^ k) 1) m (λ s i. s ⊕ f i) 0f (zero_within k) n (λ t i c l C e w. sum_step k K t (f i) c (omega arith) w (h i l e))

-- .. so that of all places
pub sum_within : (k : ℕ) → k ≤ 103 → (m : ℕ → Bool) (f : ℕ → Float) (n : ℕ) → n ≤ 2 ^ 24 → ((i : ℕ) → i < n → m i ≡ true → Within (f i) (2 ^ k) 1) → Within (sum_over m f n) (n * 2 ^ k) 1
sum_within k K m f n N h =
    within_more (sum_over m f n) (count_marked m n * 2 ^ k) 1 (n * 2 ^ k) 1 (lit< tt) (sum_within_count k K m f n N h) (omega (arith, mul-le-mul_right (2 ^ k) (counted_le m n)))

-- `sum-within` over all places
pub to_within : (k : ℕ) → k ≤ 103 → (f : ℕ → Float) (n : ℕ) → n ≤ 2 ^ 24 → ((i : ℕ) → i < n → Within (f i) (2 ^ k) 1) → Within (sum_to f n) (n * 2 ^ k) 1
unfolding sum_to
to_within k K f n N h = sum_within k K (λ _. true) f n N (λ i l _. h i l)
