-- A number of units as m * 4 ^ h: from 24 digits and any exponent, and what the whole root of m * 2 ^ 25 then needs. Assumes nothing.
use mathlib.Core.Path.{◌≡◌, sym, ap, ◌∙◌}
use Prim.Native.Nat.{ℕ, ◌+◌, ◌*◌, ◌%◌, ◌^◌, ◌≤◌, ◌<◌}
use native.Mathlib.Nat.{le_trans, le_of_eq, mul_assoc, mul_left_comm, mul_right_comm, mul-le-mul, mul-le-mul_left, mul-le-mul_right, mul-one, mul-mod_right}
use native.Mathlib.Omega.{arith}
use lib.Pow.{pow_pos, pow-add, pow_mono}
use Rattle.root.specs.Scaled.{Scaled}

-- d * 2 ^ k is 2 ^ 24 times u, with d of 24 digits: an odd exponent gives a digit to d
pub of_digits : (u d k s h : ℕ) → d * 2 ^ k ≡ u * 2 ^ 24 → 2 ^ 23 ≤ d → d < 2 ^ 24 → k ≤ 277 → s ≤ 1 → s + (h + h) ≡ k + 4 → Scaled u (d * 2 ^ s) h
of_digits u d k s h e l g K S E = (
  mul_assoc d (2 ^ s) (2 ^ (h + h))
      ∙ ap (λ (z : ℕ). d * z) (sym (pow-add 2 s (h + h)) ∙ ap (λ (z : ℕ). 2 ^ z) E ∙ pow-add 2 k 4)
      ∙ sym (mul_assoc d (2 ^ k) (2 ^ 4))
      ∙ ap (λ (z : ℕ). z * 2 ^ 4) e
      ∙ mul_assoc u (2 ^ 24) (2 ^ 4),
  le_trans l (le_trans (le_of_eq (sym (mul-one d))) (mul-le-mul_left d (pow_pos s))),
  mul-le-mul (less_one d g) (pow_mono S),
  few k h s K E,
)
  where
    less_one : (d : ℕ) → d < 16777216 → d ≤ 16777215
    less_one d h = omega arith

    few : (k h s : ℕ) → k ≤ 277 → s + (h + h) ≡ k + 4 → h ≤ 140
    few k h s K e = omega arith

-- ---- the number whose whole root is taken

abbrev pub wide : ℕ → ℕ
wide m = m * 2 ^ 25

pub wide_le : (u m h : ℕ) → Scaled u m h → wide m ≤ 16777215 * 67108864
wide_le u m h s = mul-le-mul_right (2 ^ 25) s.2

pub wide_ge : (u m h : ℕ) → Scaled u m h → 2 ^ 48 ≤ wide m
wide_ge u m h s = mul-le-mul_right (2 ^ 25) s.1

pub wide_even : (m : ℕ) → wide m % 2 ≡ 0
wide_even m = ap (λ (z : ℕ). z % 2) (mul_left_comm m 2 (2 ^ 24)) ∙ mul-mod_right 2 (m * 2 ^ 24)

pub wide_is : (u m h : ℕ) → Scaled u m h → u * 2 ^ 53 ≡ wide m * (2 ^ h * 2 ^ h)
wide_is u m h s =
    sym (mul_assoc u (2 ^ 28) (2 ^ 25)) ∙ ap (λ (z : ℕ). z * 2 ^ 25) (sym s.0) ∙ mul_right_comm m (2 ^ (h + h)) (2 ^ 25) ∙ ap (λ (z : ℕ). wide m * z) (pow-add 2 h h)
