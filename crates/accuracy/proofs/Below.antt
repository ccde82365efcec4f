-- From 15 / 8 to 2 the sine is below 1, for theta - theta ^ 3 / 6 + theta ^ 5 / 120 is: the last two steps come to that, whatever the others do. Assumes nothing.
use mathlib.Core.Path.{◌≡◌, sym, ap, subst₂}
use Prim.Native.Nat.{ℕ, ◌+◌, ◌-◌, ◌*◌, ◌≤◌, ◌<◌}
use native.Mathlib.Nat.{le_trans, sub-le, sub-add_cancel, mul-pos, mul-le-mul, mul-le-mul_left, le_of_mul-le-mul_left, mul-div-le, lt-div-mul-add}
use native.Mathlib.Omega.{arith}
use lib.Dec.{lit<, lit≤}
use Rattle.series.specs.Recurrence.{quotient_of, steps_of}
use Rattle.series.specs.Series.{divisor_of}
use Rattle.series.specs.declared.Series.TheVariants.{Sine}
use Rattle.series.proofs.Recurrence.{taken_le, steps_le}
use Rattle.accuracy.proofs.Recurrence.{one, Square, z_most}

-- 1 after the sine's steps
abbrev pub sine_steps : ℕ → ℕ
sine_steps z = steps_of (divisor_of Sine) z 8 8

-- at most 1 - z / 6 + z * z / 120, and a unit for the cut
last_two : (z : ℕ) → z ≤ 4 * one → 120 * (one * sine_steps z) + 20 * (one * z) ≤ 120 * (one * one) + 120 * one + z * z
unfolding steps_of
last_two z Z =
    let u = steps_of (divisor_of Sine) z 8 6 in
    let U = steps_le (divisor_of Sine) z 8 6 in
    let t = quotient_of z 20 u in
    let m = one - t in
    let w = quotient_of z 6 m in
    let tz : 20 * t ≤ z = le_of_mul-le-mul_left {k = one} (omega (arith, mul-div-le (z * u) (one * 20), mul-le-mul_left z U)) (lit< tt) in
    let mt : m + t ≡ one = sub-add_cancel (taken_le z 20 u (le_trans Z (lit≤ tt)) U) in
    let sw : sine_steps z + w ≡ one = sub-add_cancel (taken_le z 6 m (le_trans Z (lit≤ tt)) (sub-le one t)) in
    omega (arith, lt-div-mul-add {a = z * m} {b = one * 6} (lit< tt), ap (λ (x : ℕ). z * x) mt, mul-le-mul_left z tz)

-- the same in a / c: 1 / 6 of a unit more for the square's cut
last_two_of : (z a c : ℕ) → Square z a c → 120 * (sine_steps z * (c * c)) + 20 * (one * (a * c)) ≤ (120 * one + 140) * (c * c) + one * (a * a)
last_two_of z a c s =
    le_of_mul-le-mul_left {k = one}
    (omega (arith, mul-le-mul_left (c * c) (last_two z (z_most z a c s)), mul-le-mul s.low s.low, mul-le-mul_left c s.high))
    (lit< tt)

-- that, with 32 units more, times n / d is at most 1
abbrev Below : ℕ → ℕ → Type 0
Below n d = (120 * one + 140 + 120 * 32) * (n * (d * d * (d * d))) + one * (n * (n * n * (n * n))) ≤ 20 * (one * (n * (n * n * (d * d)))) + 120 * (one * (d * (d * d * (d * d))))

-- in r = 8 * n - 15 * d and s = 2 * d - n no coefficient on the left is above the one on the right
below : (r s : ℕ) → Below (2 * r + 15 * s) (r + 8 * s)
below r s = omega arith

pub below_one : (z n d : ℕ) → 0 < d → Square z (n * n) (d * d) → 15 * d ≤ 8 * n → n ≤ 2 * d → (sine_steps z + 32) * n ≤ one * d
below_one z n d D q l h =
    let b : Below n d = subst₂ Below (sym (n_is n d l h)) (sym (d_is n d l h)) (below (8 * n - 15 * d) (2 * d - n)) in
    le_of_mul-le-mul_left {k = 120 * (d * d * (d * d))} (omega (arith, mul-le-mul_left n (last_two_of z (n * n) (d * d) q))) (mul-pos (lit< tt) (mul-pos (mul-pos D D) (mul-pos D D)))
  where
    n_is : (n d : ℕ) → 15 * d ≤ 8 * n → n ≤ 2 * d → n ≡ 2 * (8 * n - 15 * d) + 15 * (2 * d - n)
    n_is n d l h = omega arith

    d_is : (n d : ℕ) → 15 * d ≤ 8 * n → n ≤ 2 * d → d ≡ 8 * n - 15 * d + 8 * (2 * d - n)
    d_is n d l h = omega arith
