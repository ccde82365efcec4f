-- Products with 1 and with a zero, and sums with a zero: a number comes back, but for the sign of a zero. Assumes nothing.
use mathlib.Core.Path.{◌≡◌, refl, sym, ap, ◌∙◌, subst}
use mathlib.Core.Bool.{Bool, true, false, ◌||◌, beq}
use mathlib.Core.Logic.{◌⊎◌, inl, inr}
use Prim.Native.Nat.{ℕ, zero, suc, ◌*◌, ◌^◌, ◌<◌, zero-le}
use native.Mathlib.Nat.{zero-mul, mul-zero, mul-one, add-zero, sub-zero, mul-pos, lt_of_le_of_lt, le_of_eq}
use native.Mathlib.Omega.{arith}
use borrow.Author.Tests.{le-ltb, lt-ltb, eq-eqb}
use lib.Dec.{T, eqb, lit<}
use lib.IntN.{ℤ, pos}
use lib.Ieee.{Float, nan, inf, fin, binary32, up, down, unlike, round, neg, sum, add, mul, eq, fits, of_bits}
use lib.Ieee.Fits.{up_pos, down_pos, mul-fits}
use lib.Ieee.Scale.{finite}
use Rattle.floats.specs.F32.{◌⊕◌, ◌⊗◌, 0f, 1f}
use Rattle.floats.proofs.Exactly.{mul_pow_exact, value_unique, fits_under, round_own}
use Rattle.floats.proofs.Tests.{round_zero, zero_is}

-- a zero of either sign
abbrev pub Zero : Float → Type 0
Zero x = (s : Bool) × (x ≡ fin s 0 (pos 0))

pub zero_finite : (x : Float) → Zero x → T (finite x)
zero_finite x (s, e) = subst (λ (z : Float). T (finite z)) (sym e) tt

-- ---- the same number

-- y is x, or -0 has become +0
abbrev pub Kept : Float → Float → Type 0
Kept y x = (y ≡ x) ⊎ ((y ≡ 0f) × (x ≡ neg 0f))

pub kept_again : (x y z : Float) → Kept y x → Kept z y → Kept z x
kept_again x y z (inl p) (inl q) = inl (q ∙ p)
kept_again x y z (inl p) (inr q) = inr (q.0, sym p ∙ q.1)
kept_again x y z (inr p) (inl q) = inr (q ∙ p.0, p.1)
kept_again x y z (inr p) (inr q) = inr (q.0, p.1)

pub kept_finite : (x y : Float) → T (finite x) → Kept y x → T (finite y)
kept_finite x y n (inl p) = subst (λ (z : Float). T (finite z)) (sym p) n
kept_finite x y n (inr p) = subst (λ (z : Float). T (finite z)) (sym p.0) (unfold of_bits in tt)

self_equal : (x : Float) → T (finite x) → eq x x ≡ true
unfolding eq
self_equal nan n = absurd n
self_equal (inf s) n = absurd n
self_equal (fin s m e) n = rw (eq-eqb (m * up e * down e) (m * up e * down e) refl) (like s)
  where
    like : (s : Bool) → (beq s s || eqb (m * up e * down e) 0) ≡ true
    like true = refl
    like false = refl

zeros_equal : eq 0f (neg 0f) ≡ true
unfolding eq neg of_bits
zeros_equal = refl

pub kept_equal : (x y : Float) → T (finite x) → Kept y x → eq y x ≡ true
kept_equal x y n (inl p) = ap (λ (z : Float). eq z x) p ∙ self_equal x n
kept_equal x y n (inr p) = ap (λ (z : Float). eq z x) p.0 ∙ ap (eq 0f) p.1 ∙ zeros_equal

-- ---- products

one : 1f ≡ fin false 1 (pos 0)
unfolding of_bits
one = refl

-- x * 1 is x
pub times_one : (x : Float) → T (fits binary32 x) → T (finite x) → x ⊗ 1f ≡ x
times_one nan f n = absurd n
times_one (inf s) f n = absurd n
times_one (fin s m e) f n =
    let k : m * up e * 2 ^ 0 ≡ m * up e = mul-one (m * up e) in
    ap (λ (z : Float). fin s m e ⊗ z) one
    ∙ value_unique binary32 (fin s m e ⊗ fin false 1 (pos 0)) (fin s m e) s (m * up e * 2 ^ 0) (down e) (down_pos e) (mul-fits binary32 (fin s m e) (fin false 1 (pos 0))) f
    (mul_pow_exact binary32 s m e 0 f (lt_of_le_of_lt (le_of_eq k) (fits_under binary32 s m e f)))
    (refl, ap (λ (z : ℕ). z * down e) (sym k))

-- a finite number times a zero is a zero
pub times_zero : (x z : Float) → T (finite x) → Zero z → Zero (x ⊗ z)
times_zero x z n (t, e) = subst (λ (v : Float). Zero (x ⊗ v)) (sym e) (by x n)
  where
    by : (x : Float) → T (finite x) → Zero (mul binary32 x (fin t 0 (pos 0)))
    by nan n = absurd n
    by (inf s) n = absurd n
    by (fin s m e) n = unfold mul in (unlike s t, ap (λ (v : ℕ). round binary32 (unlike s t) v (down e * 1)) (mul-zero (m * up e)) ∙ round_zero (unlike s t) (down e * 1) (mul-pos (down_pos e) (lit< tt)))

-- ---- sums

both_zero : (s t : Bool) → Kept (fin s 0 (pos 0) ⊕ fin t 0 (pos 0)) (fin s 0 (pos 0))
unfolding add sum round neg of_bits
both_zero true true = inl refl
both_zero true false = inr (refl, refl)
both_zero false true = inl refl
both_zero false false = inl refl

-- x + 0 over d, by the signs
less_zero : (s t : Bool) (x d : ℕ) → 0 < x → sum binary32 s x t 0 d ≡ round binary32 s x d
unfolding sum
less_zero true true x d h = ap (λ (z : ℕ). round binary32 true z d) (add-zero x)
less_zero true false x d h = rw (le-ltb x 0 zero-le, lt-ltb 0 x h, sub-zero x)
less_zero false true x d h = rw (le-ltb x 0 zero-le, sub-zero x)
less_zero false false x d h = ap (λ (z : ℕ). round binary32 false z d) (add-zero x)

more_zero : (s : Bool) (m : ℕ) (d : ℤ) (t : Bool) → T (fits binary32 (fin s (suc m) d)) → fin s (suc m) d ⊕ fin t 0 (pos 0) ≡ fin s (suc m) d
unfolding add
more_zero s m d t f =
    let x = suc m * up d in
    ap (λ (z : ℕ). sum binary32 s (x * 1) t z (down d * 1)) (zero-mul (down d))
    ∙ less_zero s t (x * 1) (down d * 1) (mul-pos (mul-pos (some m) (up_pos d)) (lit< tt))
    ∙ ap (λ (z : ℕ). round binary32 s z (down d * 1)) (mul-one x)
    ∙ ap (λ (z : ℕ). round binary32 s x z) (mul-one (down d))
    ∙ round_own binary32 s (suc m) d f
  where
    some : (m : ℕ) → 0 < suc m
    some m = omega arith

-- a number plus a zero is the number
pub plus_zero : (x z : Float) → T (fits binary32 x) → T (finite x) → Zero z → Kept (x ⊕ z) x
plus_zero x z f n (t, e) = subst (λ (v : Float). Kept (x ⊕ v) x) (sym e) (by x f n)
  where
    by : (x : Float) → T (fits binary32 x) → T (finite x) → Kept (add binary32 x (fin t 0 (pos 0))) x
    by nan f n = absurd n
    by (inf s) f n = absurd n
    by (fin s zero d) f n = subst (λ (v : Float). Kept (v ⊕ fin t 0 (pos 0)) v) (zero_is s 0 d f refl) (both_zero s t)
    by (fin s (suc m) d) f n = inl (more_zero s m d t f)

-- a number that was kept, plus a zero
pub kept_plus : (x y z : Float) → T (finite x) → T (fits binary32 y) → Kept y x → Zero z → Kept (y ⊕ z) x
kept_plus x y z n f k q = kept_again x y (y ⊕ z) k (plus_zero y z f (kept_finite x y n k) q)
