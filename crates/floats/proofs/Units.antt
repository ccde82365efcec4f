-- A finite f32 is m * 2 ^ k units of 2 ^ -149 with m below 2 ^ 24; its sign and its units say which value it is; and how far it can lie from a
-- multiple of a power of two. Assumes nothing.
use mathlib.Core.Path.{◌≡◌, refl, sym, ap, ◌∙◌, subst}
use mathlib.Core.Logic.{◌⊎◌, inl, inr}
use mathlib.Core.Bool.{Bool}
use Prim.Native.Nat.{ℕ, ◌-◌, ◌*◌, ◌^◌, ◌≤◌, ◌<◌}
use native.Mathlib.Nat.{le_trans, le_of_eq, le_of_lt, mul_assoc, mul-le-mul_left, mul-le-mul_right, pow-succ'}
use lib.Dec.{T}
use lib.Pow.{pow_pos, pow_mono}
use lib.Ieee.{Float, nan, inf, fin, binary32, fits}
use lib.Ieee.Exact.{HasValue}
use lib.Ieee.Scale.{finite}
use Rattle.floats.specs.Units.{units_of, sign_of}
use Rattle.floats.proofs.Within.{whole_pow}
use Rattle.floats.proofs.Exactly.{fits_rep, value_unique}
use Rattle.floats.proofs.Patterns.{lt_or_le, value_units}

-- m * 2 ^ k units, with m of at most 24 binary digits, and below 2 ^ 128 in size
pub record InUnits (x : Float) : Type 0 where
  pub m : ℕ
  pub k : ℕ
  pub few : m < 2 ^ 24
  pub small : m * 2 ^ k < 2 ^ 277
  pub value : HasValue x (sign_of x) (m * 2 ^ k) (2 ^ 149)
  pub is : units_of x ≡ m * 2 ^ k

-- EVERY FINITE F32
pub in_units : (x : Float) → T (fits binary32 x) → T (finite x) → InUnits x
in_units nan p n = absurd n
in_units (inf s) p n = absurd n
in_units (fin s m e) p n =
    let r = fits_rep binary32 s m e p in
    record { m = r.q; k = r.j; few = r.few; small = r.small; value = (refl, r.is); is = value_units (fin s m e) s (r.q * 2 ^ r.j) (refl, r.is) }

pub units_value : (x : Float) → T (fits binary32 x) → T (finite x) → HasValue x (sign_of x) (units_of x) (2 ^ 149)
units_value x p n = let u = in_units x p n in subst (λ (z : ℕ). HasValue x (sign_of x) z (2 ^ 149)) (sym u.is) u.value

-- two finite f32 of one sign with as many units are one
pub units_unique : (x y : Float) → T (fits binary32 x) → T (finite x) → T (fits binary32 y) → T (finite y) → sign_of x ≡ sign_of y → units_of x ≡ units_of y → x ≡ y
units_unique x y p n q l s u =
    value_unique binary32 x y (sign_of y) (units_of y) (2 ^ 149) (pow_pos 149) p q
    (subst (λ (t : Bool). HasValue x t (units_of y) (2 ^ 149)) s (subst (λ (z : ℕ). HasValue x (sign_of x) z (2 ^ 149)) u (units_value x p n)))
    (units_value y q l)

-- ---- against a step of 2 ^ j units: at most 2 ^ 23 steps, or a whole number of them

few_steps : (m k j : ℕ) → m < 2 ^ 24 → k < j → m * 2 ^ k ≤ 2 ^ 23 * 2 ^ j
few_steps m k j few h =
    le_trans (mul-le-mul_right (2 ^ k) (le_of_lt few))
    (le_trans (le_of_eq (sym (ap (λ (z : ℕ). 2 ^ 23 * z) (pow-succ' 2 k) ∙ sym (mul_assoc (2 ^ 23) 2 (2 ^ k))))) (mul-le-mul_left (2 ^ 23) (pow_mono h)))

pub steps : (m k j : ℕ) → m < 2 ^ 24 → (m * 2 ^ k ≤ 2 ^ 23 * 2 ^ j) ⊎ ((w : ℕ) × (m * 2 ^ k ≡ w * 2 ^ j))
steps m k j few = elim (lt_or_le k j) [ inl h ↦ inl (few_steps m k j few h) | inr h ↦ inr (m * 2 ^ (k - j), whole_pow m j k h) ]
