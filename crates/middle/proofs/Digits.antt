-- Numbers in three digits of 60 bits: what a shift leaves in them. Assumes nothing.
use mathlib.Core.Path.{◌≡◌, sym, ap, ◌∙◌}
use Prim.Native.Nat.{ℕ, ◌+◌, ◌-◌, ◌*◌, ◌/◌, ◌%◌, ◌^◌, ◌≤◌, ◌<◌}
use native.Mathlib.Nat.{lt_of_le_of_lt, lt_of_lt_of_le, mul-one, mul_assoc, mul_right_comm, add-mul, div-le_self, mul-div-mul_right}
use native.Mathlib.Omega.{arith}
use lib.Pow.{pow_pos, pow-add, pow_mono, shl_lt}
use Rattle.floats.specs.Units.{units_at}
use Rattle.floats.proofs.Patterns.{units_small, units_normal}
use Rattle.floats.proofs.Within.{whole_pow}

-- ---- shifts

-- what a shift to the left drives out of 60 bits is what the shift to the right leaves
down : (p k : ℕ) → k ≤ 60 → p / 2 ^ (60 - k) ≡ p * 2 ^ k / 2 ^ 60
down p k h = sym (ap (λ (z : ℕ). p * 2 ^ k / z) (ap (λ (z : ℕ). 2 ^ z) (whole k h) ∙ pow-add 2 (60 - k) k) ∙ mul-div-mul_right p (2 ^ (60 - k)) (pow_pos k))
  where
    whole : (k : ℕ) → k ≤ 60 → 60 ≡ 60 - k + k
    whole k h = omega arith

-- the two digits of n = p * 2 ^ k, by shifts of 64 bits
two_digits : (n : ℕ) → n / 2 ^ 60 * 2 ^ 60 + n % 2 ^ 64 % 2 ^ 60 ≡ n
two_digits n = omega arith

pub from_low : (p k : ℕ) → k ≤ 60 → p / 2 ^ (60 - k) * 2 ^ 60 + p * 2 ^ k % 2 ^ 64 % 2 ^ 60 ≡ p * 2 ^ k
from_low p k h = ap (λ (z : ℕ). z * 2 ^ 60 + p * 2 ^ k % 2 ^ 64 % 2 ^ 60) (down p k h) ∙ two_digits (p * 2 ^ k)

digits_one : (h m b q x : ℕ) → h * q + m * b ≡ x → h * q + (m * b + 0) ≡ x
digits_one h m b q x e = omega arith

pub from_mid : (p k : ℕ) → 60 ≤ k → k ≤ 120 → p / 2 ^ (120 - k) * 2 ^ 120 + (p * 2 ^ (k - 60) % 2 ^ 64 % 2 ^ 60 * 2 ^ 60 + 0) ≡ p * 2 ^ k
from_mid p k h l =
    let s : 120 - k ≡ 60 - (k - 60) = omega arith in
    let high = p / 2 ^ (60 - (k - 60)) in
    let mid = p * 2 ^ (k - 60) % 2 ^ 64 % 2 ^ 60 in
    rw s
    (digits_one high mid (2 ^ 60) (2 ^ 120) (p * 2 ^ k)
    (ap (λ (z : ℕ). z + mid * 2 ^ 60) (sym (mul_assoc high (2 ^ 60) (2 ^ 60)))
    ∙ sym (add-mul (high * 2 ^ 60) mid (2 ^ 60))
    ∙ ap (λ (z : ℕ). z * 2 ^ 60) (from_low p (k - 60) (omega arith))
    ∙ sym (whole_pow p 60 k h)))

pub high_small : (p k : ℕ) → p < 2 ^ 36 → k < 140 → p * 2 ^ (k - 120) < 2 ^ 55
high_small p k P K = lt_of_lt_of_le (shl_lt 36 (k - 120) P) (pow_mono {i = 36 + (k - 120)} {j = 55} (omega arith))

pub from_high : (p k : ℕ) → 120 ≤ k → p < 2 ^ 36 → k < 140 → p * 2 ^ (k - 120) % 2 ^ 64 * 2 ^ 120 + (0 * 2 ^ 60 + 0) ≡ p * 2 ^ k
from_high p k h P K =
    digits_one (p * 2 ^ (k - 120) % 2 ^ 64) 0 (2 ^ 60) (2 ^ 120) (p * 2 ^ k)
    (ap (λ (z : ℕ). z * 2 ^ 120 + 0 * 2 ^ 60) (kept (p * 2 ^ (k - 120)) (high_small p k P K)) ∙ alone (p * 2 ^ (k - 120) * 2 ^ 120) ∙ sym (whole_pow p 120 k h))
  where
    kept : (n : ℕ) → n < 2 ^ 55 → n % 2 ^ 64 ≡ n
    kept n h = omega arith

    alone : (n : ℕ) → n + 0 * 2 ^ 60 ≡ n
    alone n = omega arith

pub from_none : (m l x : ℕ) → m * 2 ^ 60 + l ≡ x → 0 * 2 ^ 120 + (m * 2 ^ 60 + l) ≡ x
from_none m l x e = omega arith

pub shifted_less : (p n d : ℕ) → p < n → p / d < n
shifted_less p n d h = lt_of_le_of_lt (div-le_self p d) h

-- ---- a size by its pattern

pub sized_small : (b f : ℕ) → b / 8388608 ≡ 0 → b * f * 2 ^ 0 ≡ units_at b * f
sized_small b f h = mul-one (b * f) ∙ ap (λ (z : ℕ). z * f) (sym (units_small b (none b h)))
  where
    none : (b : ℕ) → b / 8388608 ≡ 0 → b < 8388608
    none b h = omega arith

pub sized_normal : (b f : ℕ) → 8388608 ≤ b → (8388608 + b % 8388608) * f * 2 ^ (b / 8388608 - 1) ≡ units_at b * f
sized_normal b f h = mul_right_comm (8388608 + b % 8388608) f (2 ^ (b / 8388608 - 1)) ∙ ap (λ (z : ℕ). z * f) (sym (units_normal b h))
