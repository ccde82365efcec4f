-- The sine is within 2 ^ -23 of its series through theta ^ 17. Assumes nothing.
-- The product of theta and of the rounded sum is rounded too. Up to 15 / 8 it is at most 2, and moves by 2 ^ -24 at most; from there on it is at most 1, and
-- moves by 2 ^ -25 at most, which leaves room for the sum's error times 2.
use mathlib.Core.Path.{◌≡◌, refl, sym, ap, ◌∙◌, subst}
use mathlib.Core.Bool.{Bool, true, false, not}
use Prim.Native.Nat.{ℕ, ◌+◌, ◌*◌, ◌^◌, ◌≤◌, ◌<◌}
use native.Mathlib.Nat.{le_trans, le_of_eq, le_of_lt, mul-one, mul-pos, mul-le-mul, mul-le-mul_left, mul-le-mul_right, le_of_mul-le-mul_left}
use native.Mathlib.Omega.{arith}
use lib.Dec.{T, leb, leb→le, nleb→lt, lit<, lit≤}
use lib.IntN.{ℤ}
use lib.Pow.{pow_pos}
use lib.Ieee.{Float, nan, inf, fin, binary32, up, down, round}
use lib.Ieee.Fits.{down_pos}
use Rattle.floats.specs.Bound.{Within}
use Rattle.floats.proofs.Within.{round_within, rep_down}
use Rattle.floats.proofs.Nearest.{unit, RoundedTo, rounded_to}
use Rattle.series.specs.Series.{divisor_of, z_of, sin_of}
use Rattle.series.specs.declared.Series.TheVariants.{Sine}
use Rattle.floats.proofs.Values.{value_bound}
use Rattle.series.proofs.Recurrence.{steps_le}
use Rattle.accuracy.specs.Accuracy.{SineNear}
use Rattle.floats.proofs.Exactly.{mul_value, unlike_false}
use Rattle.accuracy.proofs.Close.{Fraction, scale, Close, times}
use Rattle.accuracy.proofs.Recurrence.{one, parts, Square, error_of, steps_close}
use Rattle.accuracy.proofs.Near.{NearTo, signed, rounded_close, round_near}
use Rattle.accuracy.proofs.Taylor.{taylor, sine_is, square_of}
use Rattle.accuracy.proofs.Below.{sine_steps, below_one}

-- the distance of the sum from its series, once it is rounded: upper / lower
abbrev upper : ℕ
upper = 1 * parts + error_of (divisor_of Sine) 8 8 * 2 ^ 25

abbrev lower : ℕ
lower = 2 ^ 25 * parts

-- that distance times n / d, at most x / y, and the rounding's p / w
room : (x y n d p k m w t : ℕ) → 0 < y → y * n ≤ x * d → (y * p * m + x * k * w) * t ≤ y * (w * m) → (p * (m * d) + k * n * w) * t ≤ w * (m * d)
room x y n d p k m w t Y l h = le_of_mul-le-mul_left {k = y} (omega (arith, mul-le-mul_left (k * w * t) l, mul-le-mul_left d h)) Y

-- g / p is v / 2 ^ 30 rounded, moved by 32 units at most
under_one : (g v p w n d : ℕ) → g * one ≤ v * p + w * one → w * one ≡ 32 * p → (v + 32) * n ≤ one * d → g * n ≤ p * d * 1
under_one g v p w n d h i l = le_of_mul-le-mul_left {k = one} (omega (arith, mul-le-mul_left n h, mul-le-mul_left p l, ap (λ (x : ℕ). n * x) i)) (lit< tt)

under_two : (g p n d : ℕ) → g ≤ p → n ≤ 2 * d → g * n ≤ p * d * 2
under_two g p n d h l = le_trans (mul-le-mul h l) (le_of_eq (omega arith))

module _ (s : Bool) (k : ℕ) (e : ℤ) (w : Within (fin s k e) 2 1) where
  abbrev n : ℕ
  n = k * up e

  abbrev d : ℕ
  d = down e

  abbrev v : ℕ
  v = sine_steps (z_of (fin s k e))

  square : Square (z_of (fin s k e)) (n * n) (d * d)
  square = square_of s k e w

  two : n ≤ 2 * d
  two = omega arith

  v_le : v ≤ one
  v_le = steps_le (divisor_of Sine) (z_of (fin s k e)) 8 8

  -- ---- the sum, rounded to g / 2 ^ 149

  first : RoundedTo false v one (2 ^ 124)
  first = rounded_to false v one 0 (lit< tt) (lit≤ tt) v_le

  abbrev g : ℕ
  g = first.h

  g_le : g ≤ unit
  g_le =
      le_trans (le_of_eq (sym (mul-one g)))
      (value_bound (round binary32 false v one) false g unit 1 1 first.value (round_within binary32 false v one 1 1 (lit< tt) (rep_down 1 0 (lit≤ tt) (lit≤ tt)) (mul-le-mul_right 1 v_le)))

  g_close : Close g unit (taylor 1 (n * n) (d * d)) upper lower
  g_close = rounded_close 0 (lit< tt) first
      (subst (λ (f : Fraction). Close v one f (error_of (divisor_of Sine) 8 8) parts) (sine_is (n * n) (d * d)) (steps_close (z_of (fin s k e)) (n * n) (d * d) square (divisor_of Sine) 8 8 tt))

  -- ---- times theta, rounded

  sin_is : sin_of (fin s k e) ≡ round binary32 s (g * n) (unit * d)
  unfolding sin_of
  sin_is = mul_value binary32 (round binary32 false v one) (fin s k e) false s g unit n d (pow_pos 149) (down_pos e) first.value (refl, refl) ∙ ap (λ (b : Bool). round binary32 b (g * n) (unit * d)) (unlike_false s)

  abbrev series : Fraction
  series = scale n d (taylor 1 (n * n) (d * d))

  -- theta up to x / y, the product up to 2 ^ j
  near_at : (t x y j : ℕ) → 0 < y → y * n ≤ x * d → j ≤ 1 → g * n ≤ unit * d * 2 ^ j → (y * 2 ^ j * lower + x * upper * 2 ^ 25) * t ≤ y * (2 ^ 25 * lower) → NearTo t (sin_of (fin s k e)) (signed s series)
  near_at t x y j Y l J b h =
      subst (λ (r : Float). NearTo t r (signed s series)) (sym sin_is)
      (round_near t s j (mul-pos (pow_pos 149) (down_pos e)) J b (mul-pos (lit< tt) (down_pos e)) (room x y n d (2 ^ j) upper lower (2 ^ 25) t Y l h) (times n d g_close))

  near : (t : ℕ) → (8 * 2 * lower + 15 * upper * 2 ^ 25) * t ≤ 8 * (2 ^ 25 * lower) → (1 * 1 * lower + 2 * upper * 2 ^ 25) * t ≤ 1 * (2 ^ 25 * lower) → NearTo t (sin_of (fin s k e)) (signed s series)
  near t low high = go (leb (8 * n) (15 * d)) (leb→le (8 * n) (15 * d)) (nleb→lt (8 * n) (15 * d))
    where
      go : (b : Bool) → (T b → 8 * n ≤ 15 * d) → (T (not b) → 15 * d < 8 * n) → NearTo t (sin_of (fin s k e)) (signed s series)
      go true y z = near_at t 15 8 1 (lit< tt) (y tt) (lit≤ tt) (under_two g unit n d g_le two) low
      go false y z = near_at t 2 1 0 (lit< tt) (omega arith) (lit≤ tt) (under_one g v unit (2 ^ 124) n d first.under refl (below_one (z_of (fin s k e)) n d (down_pos e) square (le_of_lt (z tt)) two)) high

-- THE THEOREM: theta from -2 to 2
pub sin_near : SineNear
unfolding error_of
sin_near nan w = absurd w
sin_near (inf s) w = absurd w
sin_near (fin false k e) w = near false k e w _ (lit≤ tt) (lit≤ tt)
sin_near (fin true k e) w = near true k e w _ (lit≤ tt) (lit≤ tt)
