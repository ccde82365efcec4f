-- The values of bit patterns, in units of 2 ^ -149, and the patterns of NaNs. Assumes nothing.
use mathlib.Core.Path.{◌≡◌, refl, sym, ap, ◌∙◌, subst}
use mathlib.Core.Logic.{◌⊎◌, inl, inr}
use mathlib.Core.Bool.{Bool, true, false, not, cond, true≢false}
use Prim.Native.Nat.{ℕ, suc, ◌+◌, ◌-◌, ◌*◌, ◌/◌, ◌%◌, ◌^◌, ◌≤◌, ◌<◌}
use native.Mathlib.Nat.{le_of_lt, lt_of_not-le, eq-or-lt_of_le, mul-le-mul_left, mul-le-mul_right, pow-succ', le_trans, le_of_eq, lt_irrefl, lt_of_lt_of_le, mod-eq_of_lt, mul_assoc, mul-one, mul-pos, mul-div_cancel}
use native.Mathlib.Omega.{arith}
use lib.Dec.{T, leb, ltb, eqb, eqb→eq, ltb→lt, nltb→le, le→leb, lt→ltb, not_T}
use lib.Arith.{le→nltb, lt→nleb}
use lib.Pow.{pow_pos, pow_mono}
use lib.Ieee.{Float, nan, inf, fin, binary32, up, down, odd, of_fields, of_bits, to_bits, fits, is_nan, nan_bits, ne}
use lib.Ieee.Fits.{down_pos}
use lib.Ieee.Bits.{is_true, is_false, cond_no, nan_bits_is, nan_bits_above, of_bits-to_bits}
use lib.Ieee.Compare.{nan_differs}
use lib.Ieee.Exact.{HasValue, odd_sign}
use lib.Ieee.Nearest.{div_same}
use lib.Ieee.Scale.{finite}
use Rattle.lists.specs.Marked.{pick}
use Rattle.lists.proofs.Cases.{pick_true, pick_false}
use Rattle.floats.specs.Bound.{Within}
use Rattle.floats.specs.Units.{units_of, units_at}
use Rattle.floats.proofs.Within.{within_finite}
use Rattle.floats.proofs.Values.{value_bound}

-- ---- a pattern's size in units, subnormal and normal

pub lt_or_le : (a b : ℕ) → (a < b) ⊎ (b ≤ a)
lt_or_le a b = go (ltb a b) (ltb→lt a b) (nltb→le a b)
  where
    go : (c : Bool) → (T c → a < b) → (T (not c) → b ≤ a) → (a < b) ⊎ (b ≤ a)
    go true l g = inl (l tt)
    go false l g = inr (g tt)

pub units_small : (b : ℕ) → b < 8388608 → units_at b ≡ b
units_small b h = pick_true (ltb b 8388608) _ _ (is_true (ltb b 8388608) (lt→ltb b 8388608 h))

pub units_normal : (b : ℕ) → 8388608 ≤ b → units_at b ≡ (8388608 + b % 8388608) * 2 ^ (b / 8388608 - 1)
units_normal b h = pick_false (ltb b 8388608) _ _ (is_false (ltb b 8388608) (le→nltb b 8388608 h))

-- a size in units is the value's
pub value_units : (x : Float) (s : Bool) (u : ℕ) → HasValue x s u (2 ^ 149) → units_of x ≡ u
unfolding units_of
value_units nan s u h = absurd h
value_units (inf t) s u h = absurd h
value_units (fin t m e) s u h = div_same (m * up e * 2 ^ 149) (down e) (u * down e) (down e) (down_pos e) (down_pos e) (ap (λ (z : ℕ). z * down e) h.1) ∙ mul-div_cancel u (down_pos e)

-- ---- fields

pub of_bits_is : (b : ℕ) → of_bits binary32 b ≡ of_fields binary32 (leb 2147483648 b) (b % 2147483648 / 8388608) (b % 8388608)
unfolding of_bits
of_bits_is b = refl

pub sign_clear : (b : ℕ) → b < 2147483648 → of_bits binary32 b ≡ of_fields binary32 false (b / 8388608) (b % 8388608)
sign_clear b h =
    of_bits_is b
    ∙ ap (λ (s : Bool). of_fields binary32 s (b % 2147483648 / 8388608) (b % 8388608)) (is_false (leb 2147483648 b) (lt→nleb 2147483648 b h))
    ∙ ap (λ (x : ℕ). of_fields binary32 false (x / 8388608) (b % 8388608)) (mod-eq_of_lt h)

pub sign_set : (b : ℕ) → 2147483648 ≤ b → of_bits binary32 b ≡ of_fields binary32 true (b % 2147483648 / 8388608) (b % 8388608)
sign_set b h = of_bits_is b ∙ ap (λ (s : Bool). of_fields binary32 s (b % 2147483648 / 8388608) (b % 8388608)) (is_true (leb 2147483648 b) (le→leb 2147483648 b h))

pub fields_zero : (s : Bool) (t : ℕ) → of_fields binary32 s 0 t ≡ odd 24 s t 0 149
unfolding of_fields
fields_zero s t = refl

fields_normal : (s : Bool) (x t : ℕ) → suc x < 255 → of_fields binary32 s (suc x) t ≡ odd 24 s (8388608 + t) x 149
unfolding of_fields
fields_normal s x t h = cond_no (eqb (suc x) 255) (cond (eqb t 0) (inf s) nan) (odd 24 s (8388608 + t) x 149) (not_T (eqb (suc x) 255) (λ (u : T (eqb (suc x) 255)). differ x h (eqb→eq (suc x) 255 u)))
  where
    differ : (x : ℕ) → suc x < 255 → suc x ≡ 255 → ⊥
    differ x h e = omega arith

field : (b : ℕ) → 8388608 ≤ b → suc (b / 8388608 - 1) ≡ b / 8388608
field b h = omega arith

-- the value of the fields of a magnitude r below the infinity's
pub fields_value : (s : Bool) (r : ℕ) → r < 2139095040 → HasValue (of_fields binary32 s (r / 8388608) (r % 8388608)) s (units_at r) (2 ^ 149)
unfolding pick
fields_value s r h = go (ltb r 8388608) (ltb→lt r 8388608) (nltb→le r 8388608)
  where
    go : (c : Bool) → (T c → r < 8388608) → (T (not c) → 8388608 ≤ r) → HasValue (of_fields binary32 s (r / 8388608) (r % 8388608)) s (pick c r ((8388608 + r % 8388608) * 2 ^ (r / 8388608 - 1))) (2 ^ 149)
    go true k n =
        let e : of_fields binary32 s (r / 8388608) (r % 8388608) ≡ odd 24 s r 0 149 =
        ap (λ (x : ℕ). of_fields binary32 s x (r % 8388608)) (none r (k tt)) ∙ ap (λ (t : ℕ). of_fields binary32 s 0 t) (mod-eq_of_lt (k tt)) ∙ fields_zero s r in
        subst (λ (u : ℕ). HasValue (of_fields binary32 s (r / 8388608) (r % 8388608)) s u (2 ^ 149)) (mul-one r) (subst (λ (w : Float). HasValue w s (r * 1) (2 ^ 149)) (sym e) (odd_sign 24 s r 0 149))
      where
        none : (r : ℕ) → r < 8388608 → r / 8388608 ≡ 0
        none r h = omega arith
    go false k n =
        subst (λ (w : Float). HasValue w s ((8388608 + r % 8388608) * 2 ^ (r / 8388608 - 1)) (2 ^ 149))
        (sym (ap (λ (x : ℕ). of_fields binary32 s x (r % 8388608)) (sym (field r (n tt))) ∙ fields_normal s (r / 8388608 - 1) (r % 8388608) (field_lt r (n tt) h)))
        (odd_sign 24 s (8388608 + r % 8388608) (r / 8388608 - 1) 149)
      where
        field_lt : (b : ℕ) → 8388608 ≤ b → b < 2139095040 → suc (b / 8388608 - 1) < 255
        field_lt b h k = omega arith

-- the value of a pattern below the infinity's
pub bits_value : (b : ℕ) → b < 2139095040 → HasValue (of_bits binary32 b) false (units_at b) (2 ^ 149)
bits_value b h = subst (λ (w : Float). HasValue w false (units_at b) (2 ^ 149)) (sym (sign_clear b (small b h))) (fields_value false b h)
  where
    small : (b : ℕ) → b < 2139095040 → b < 2147483648
    small b h = omega arith

-- the same for either sign
pub signed_value : (b : ℕ) → b % 2147483648 < 2139095040 → HasValue (of_bits binary32 b) (leb 2147483648 b) (units_at (b % 2147483648)) (2 ^ 149)
signed_value b h =
    subst (λ (w : Float). HasValue w (leb 2147483648 b) (units_at (b % 2147483648)) (2 ^ 149))
    (sym (of_bits_is b ∙ ap (λ (t : ℕ). of_fields binary32 (leb 2147483648 b) (b % 2147483648 / 8388608) t) (digits b)))
    (fields_value (leb 2147483648 b) (b % 2147483648) h)
  where
    digits : (b : ℕ) → b % 8388608 ≡ b % 2147483648 % 8388608
    digits b = omega arith

-- ---- NaNs

pub is_nan_lem : (x : Float) → is_nan x ≡ true → x ≡ nan
unfolding is_nan
is_nan_lem nan h = refl
is_nan_lem (inf s) h = absurd (true≢false (sym h))
is_nan_lem (fin s m e) h = absurd (true≢false (sym h))

pub no_nan : (x : Float) → ne x x ≡ false → T (not (is_nan x))
unfolding is_nan
no_nan nan h = true≢false (sym nan_differs ∙ h)
no_nan (inf s) h = tt
no_nan (fin s m e) h = tt

pub nan_pattern : (b : ℕ) → 2139095040 < b % 2147483648 → of_bits binary32 b ≡ nan
nan_pattern b h = is_nan_lem (of_bits binary32 b) (sym (nan_bits_is binary32 b) ∙ nan_bits_above binary32 b ∙ is_true (ltb 2139095040 (b % 2147483648)) (lt→ltb 2139095040 (b % 2147483648) h))

pub number_pattern : (b : ℕ) → b % 2147483648 ≤ 2139095040 → T (not (nan_bits binary32 b))
number_pattern b h = subst (λ (t : Bool). T (not t)) (sym (nan_bits_above binary32 b)) (le→nltb 2139095040 (b % 2147483648) h)

-- a pattern above zero has units
pub units_at_pos : (b : ℕ) → 0 < b → 0 < units_at b
units_at_pos b p = elim (lt_or_le b 8388608) [
  | inl h ↦ subst (λ (z : ℕ). 0 < z) (sym (units_small b h)) p
  | inr h ↦ subst (λ (z : ℕ). 0 < z) (sym (units_normal b h)) (mul-pos (some (b % 8388608)) (pow_pos (b / 8388608 - 1)))
]
  where
    some : (r : ℕ) → 0 < 8388608 + r
    some r = omega arith

-- ---- the patterns of finite values, the sign's bit left out, are below the infinity's

ones_not_finite : (s : Bool) (t : ℕ) → T (finite (of_fields binary32 s 255 t)) → ⊥
unfolding of_fields
ones_not_finite s t = go (eqb t 0)
  where
    go : (b : Bool) → T (finite (cond b (inf s) nan)) → ⊥
    go true h = h
    go false h = h

pub finite_pattern : (b : ℕ) → T (finite (of_bits binary32 b)) → b % 2147483648 < 2139095040
finite_pattern b t =
    lt_of_not-le
    (λ (g : 2139095040 ≤ b % 2147483648).
    ones_not_finite (leb 2147483648 b) (b % 8388608)
    (subst (λ (v : Float). T (finite v)) (of_bits_is b ∙ ap (λ (x : ℕ). of_fields binary32 (leb 2147483648 b) x (b % 8388608)) (ones b g)) t))
  where
    ones : (b : ℕ) → 2139095040 ≤ b % 2147483648 → b % 2147483648 / 8388608 ≡ 255
    ones b h = omega arith

-- a value by its own pattern
pub own_pattern : (x : Float) → T (fits binary32 x) → T (finite x) → HasValue x (leb 2147483648 (to_bits binary32 x)) (units_at (to_bits binary32 x % 2147483648)) (2 ^ 149)
own_pattern x f t =
    let b = to_bits binary32 x in
    let same : of_bits binary32 b ≡ x = of_bits-to_bits binary32 x f in
    subst (λ (v : Float). HasValue v (leb 2147483648 b) (units_at (b % 2147483648)) (2 ^ 149)) same
    (signed_value b (finite_pattern b (subst (λ (v : Float). T (finite v)) (sym same) t)))

-- ---- patterns stand in the order of the sizes

units_over : (b : ℕ) → 8388608 ≤ b → 8388608 * 2 ^ (b / 8388608 - 1) ≤ units_at b
units_over b h = le_trans (mul-le-mul_right (2 ^ (b / 8388608 - 1)) (more b)) (le_of_eq (sym (units_normal b h)))
  where
    more : (b : ℕ) → 8388608 ≤ 8388608 + b % 8388608
    more b = omega arith

units_under : (b : ℕ) → units_at b ≤ 8388608 * 2 ^ (b / 8388608)
units_under b = elim (lt_or_le b 8388608) [ inl l ↦ small l | inr g ↦ normal g ]
  where
    small : b < 8388608 → units_at b ≤ 8388608 * 2 ^ (b / 8388608)
    small l = le_trans (le_of_eq (units_small b l)) (le_trans (le_of_lt l) (mul-le-mul_left 8388608 (pow_pos (b / 8388608))))

    few : (b : ℕ) → 8388608 + b % 8388608 ≤ 8388608 * 2
    few b = omega arith

    normal : 8388608 ≤ b → units_at b ≤ 8388608 * 2 ^ (b / 8388608)
    normal g =
        let k = b / 8388608 - 1 in
        le_trans (le_of_eq (units_normal b g))
        (le_trans (mul-le-mul_right (2 ^ k) (few b))
        (le_of_eq (mul_assoc 8388608 2 (2 ^ k) ∙ ap (λ (x : ℕ). 8388608 * x) (sym (pow-succ' 2 k) ∙ ap (λ (x : ℕ). 2 ^ x) (field b g)))))

-- the exponent's field is less, or it is the same and the digits are no more
pub units_mono : (p q : ℕ) → p ≤ q → units_at p ≤ units_at q
units_mono p q h = elim (eq-or-lt_of_le (fields p q h)) [ inl e ↦ same e | inr l ↦ less l ]
  where
    fields : (p q : ℕ) → p ≤ q → p / 8388608 ≤ q / 8388608
    fields p q h = omega arith

    some : (i q : ℕ) → i < q / 8388608 → (i ≤ q / 8388608 - 1) × (8388608 ≤ q)
    some i q h = omega arith

    less : p / 8388608 < q / 8388608 → units_at p ≤ units_at q
    less l = let k = some (p / 8388608) q l in le_trans (units_under p) (le_trans (mul-le-mul_left 8388608 (pow_mono k.0)) (units_over q k.1))

    small : (p q : ℕ) → p / 8388608 ≡ q / 8388608 → p < 8388608 → q < 8388608
    small p q e l = omega arith

    digits : (p q : ℕ) → p ≤ q → p / 8388608 ≡ q / 8388608 → 8388608 + p % 8388608 ≤ 8388608 + q % 8388608
    digits p q h e = omega arith

    subnormal : p / 8388608 ≡ q / 8388608 → p < 8388608 → units_at p ≤ units_at q
    subnormal e l = le_trans (le_of_eq (units_small p l)) (le_trans h (le_of_eq (sym (units_small q (small p q e l)))))

    normal : p / 8388608 ≡ q / 8388608 → 8388608 ≤ p → units_at p ≤ units_at q
    normal e g =
        le_trans (le_of_eq (units_normal p g))
        (le_trans (mul-le-mul_right (2 ^ (p / 8388608 - 1)) (digits p q h e))
        (le_of_eq (ap (λ (k : ℕ). (8388608 + q % 8388608) * 2 ^ (k - 1)) e ∙ sym (units_normal q (le_trans g h)))))

    same : p / 8388608 ≡ q / 8388608 → units_at p ≤ units_at q
    same e = elim (lt_or_le p 8388608) [ inl l ↦ subnormal e l | inr g ↦ normal e g ]

-- a value below that of the pattern q has a pattern below q
pub pattern_lt : (x : Float) (q a c : ℕ) → T (fits binary32 x) → Within x a c → a * 2 ^ 149 < units_at q * c → to_bits binary32 x % 2147483648 < q
pattern_lt x q a c f w h =
    let b = to_bits binary32 x in
    let r = b % 2147483648 in
    let bound : units_at r * c ≤ a * 2 ^ 149 = value_bound x (leb 2147483648 b) (units_at r) (2 ^ 149) a c (own_pattern x f (within_finite x a c w)) w in
    lt_of_not-le (λ (g : q ≤ r). lt_irrefl (a * 2 ^ 149) (lt_of_lt_of_le h (le_trans (mul-le-mul_right c (units_mono q r g)) bound)))
