-- The steps of the three recurrences: within its limit no step takes more than 2 ^ 30, so `-` cuts nothing off and U stays from 0 to 2 ^ 30. Assumes nothing.
use Rattle.std.proofs.Common.{◌≡◌, ℕ, zero, suc, ◌+◌, ◌-◌, ◌*◌, ◌^◌, ◌≤◌, le_trans, le_refl, mul-le-mul, mul-le-mul_left, sub-add_cancel, sub-le, arith, lit≤}
use native.Mathlib.Nat.{div-le_of_le-mul}
use Rattle.series.specs.Recurrence.{quotient_of, u_next, steps_of}
use Rattle.series.specs.Series.{divisor_of, limit_of, lowest_of}
use Rattle.series.specs.declared.Series.{Series}
use Rattle.series.specs.declared.Series.TheVariants.{Cosine, Sine, Exponential}

-- ---- any divisors

-- a step takes at most 2 ^ 30 of a Z up to 2 ^ 30 * d
pub taken_le : (z d u : ℕ) → z ≤ 2 ^ 30 * d → u ≤ 2 ^ 30 → quotient_of z d u ≤ 2 ^ 30
taken_le z d u h k = div-le_of_le-mul (2 ^ 30 * d) (mul-le-mul h k)

pub steps_le : (d : ℕ → ℕ) (z top n : ℕ) → steps_of d z top n ≤ 2 ^ 30
unfolding steps_of
steps_le d z top zero = le_refl (2 ^ 30)
steps_le d z top (suc n) = sub-le (2 ^ 30) (quotient_of z (d (top - n)) (steps_of d z top n))

-- ---- the divisors of the series

-- they grow with k
pub divisor_mono : (s : Series) {j k : ℕ} → j ≤ k → divisor_of s j ≤ divisor_of s k
divisor_mono Cosine h = mul-le-mul (omega arith) (omega arith)
divisor_mono Sine h = mul-le-mul (omega arith) (omega arith)
divisor_mono Exponential h = h

-- each series at its ends: the last step's k, its divisor, the largest divisor, and two bounds on the limit
ends : (s : Series) → (1 ≤ lowest_of s) × (1 ≤ divisor_of s (lowest_of s)) × (divisor_of s 12 ≤ 600) × (limit_of s ≤ 2 ^ 32) × (limit_of s ≤ 2 ^ 30 * divisor_of s (lowest_of s))
ends Cosine = (lit≤ tt, lit≤ tt, lit≤ tt, lit≤ tt, lit≤ tt)
ends Sine = (lit≤ tt, lit≤ tt, lit≤ tt, lit≤ tt, lit≤ tt)
ends Exponential = (lit≤ tt, lit≤ tt, lit≤ tt, lit≤ tt, lit≤ tt)

pub divisor_pos : (s : Series) (k : ℕ) → lowest_of s ≤ k → 1 ≤ divisor_of s k
divisor_pos s k h = le_trans (ends s).1 (divisor_mono s h)

pub divisor_le : (s : Series) (k : ℕ) → k ≤ 12 → divisor_of s k ≤ 600
divisor_le s k h = le_trans (divisor_mono s h) (ends s).2

pub limit_le : (s : Series) → limit_of s ≤ 2 ^ 32
limit_le s = (ends s).3

pub within_divisor : (s : Series) (z k : ℕ) → z ≤ limit_of s → lowest_of s ≤ k → z ≤ 2 ^ 30 * divisor_of s k
within_divisor s z k h l = le_trans (le_trans h (ends s).4) (mul-le-mul_left (2 ^ 30) (divisor_mono s l))

-- ---- THE LAW: no step of a series takes more than 2 ^ 30, so U and what is taken make 2 ^ 30

pub series_taken_le : (s : Series) (z k u : ℕ) → z ≤ limit_of s → lowest_of s ≤ k → u ≤ 2 ^ 30 → quotient_of z (divisor_of s k) u ≤ 2 ^ 30
series_taken_le s z k u h l = taken_le z (divisor_of s k) u (within_divisor s z k h l)

pub step_exact : (s : Series) (z k u : ℕ) → z ≤ limit_of s → lowest_of s ≤ k → u ≤ 2 ^ 30 → u_next z (divisor_of s k) u + quotient_of z (divisor_of s k) u ≡ 2 ^ 30
step_exact s z k u h l m = sub-add_cancel (series_taken_le s z k u h l m)
