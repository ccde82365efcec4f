-- The whole part of a value from 0 to 2 ^ 22 by adding 2 ^ 23 and taking it off again: from 2 ^ 23 on no f32 has a fraction, so the sum is one
-- of the two whole numbers around it, and a test tells which. The floor of such a value as an index, and that it stays below a bound. Assumes nothing.
use Rattle.std.proofs.Common.{◌≡◌, ℕ, zero, suc, ◌+◌, ◌-◌, ◌*◌, ◌/◌, ◌%◌, ◌^◌, ◌<◌, ◌≤◌, true, false, T, ltb, ◌⊎◌, ℤ, sym, refl, ap, ◌∙◌, subst, ap₂, inl, inr, ⊎_elim, true≢false, mul-le-mul_right, div-lt_iff_lt-mul, eq-or-lt_of_le, div-add-mod', zero-mul, mul-one, le_of_mul-le-mul_right, arith, lit<, lit≤, ltb-true, le-ltb, lt-ltb}
use native.Mathlib.Nat.{zero-div, div-le_of_le-mul, min-eq_left}
use lib.Ieee.{Float, nan, inf, fin, binary32, up, down, sum, add, neg, sub, round, lt, le, fits, of_int, of_bits, to_unsigned}
use lib.Ieee.Fits.{down_pos, round-fits}
use lib.Ieee.Bits.{is_true}
use Rattle.lists.specs.Marked.{pick}
use Rattle.lists.proofs.Cases.{pick_true, pick_false}
use Rattle.floats.specs.F32.{◌⊕◌, ◌⊖◌, f32, 0f, 1f}
use Rattle.floats.specs.Bound.{Within, UpTo, AtLeast}
use Rattle.floats.proofs.Within.{Signed, round_signed, round_within, within_finite, rep_down}
use Rattle.floats.proofs.Exactly.{whole_is}
use Rattle.floats.proofs.Signs.{up_to_of_le, up_to_more, round_at_least, sub_whole}
use Rattle.floats.proofs.Tests.{lt_values, below_zero, zero_is}
use Rattle.floats.proofs.Fraction.{fraction_within}
use Rattle.numbers.specs.Numbers.{abs_of, floor_of}
use Rattle.numbers.proofs.Cast.{cast_floor}
use Rattle.numbers.proofs.Whole.{part, large, floor_kept}

-- ---- the index

part_le : (x : Float) (k : ℕ) → UpTo x k 1 → part x ≤ k
part_le nan k h = absurd h
part_le (inf s) k h = absurd h
part_le (fin true m e) k h = rw (h, zero-mul (up e), zero-div (down e)) (omega arith)
part_le (fin false m e) k h = div-le_of_le-mul (down e) (omega arith)

-- the floor of a value from 0 to 2 ^ 24, as a whole number, is its whole part; that of -0 is 0 too
index_is : (x : Float) (k : ℕ) → k ≤ 2 ^ 24 → T (fits binary32 x) → UpTo x k 1 → to_unsigned 64 (floor_of x) ≡ part x
unfolding to_unsigned
index_is nan k K f h = absurd h
index_is (inf s) k K f h = absurd h
index_is (fin true m e) k K f h = cast_floor (fin true m e) f ∙ rw (h, zero-mul (up e), zero-div (down e))
index_is (fin false m e) k K f h = cast_floor (fin false m e) f ∙ min-eq_left (omega (arith, part_le (fin false m e) k h))

part_lt : (x : Float) (k : ℕ) → k ≤ 2 ^ 24 → UpTo x k 1 → lt x (f32 k) ≡ true → part x < k
part_lt nan k K u h = absurd u
part_lt (inf s) k K u h = absurd u
part_lt (fin false m e) k K u h =
    let t = lt_values (fin false m e) (f32 k) (m * up e) (down e) k 1 (down_pos e) (lit< tt) (refl, refl) (whole_is k K) in
    (div-lt_iff_lt-mul (down_pos e)).1 (omega (arith, ltb-true (m * up e * 1) (k * down e) (sym t ∙ h)))
part_lt (fin true m e) zero K u h = absurd (true≢false (sym h ∙ unfold of_int round in below_zero true m e ∙ ap (ltb 0) u))
part_lt (fin true m e) (suc k) K u h = rw (u, zero-mul (up e), zero-div (down e)) (omega arith)

-- a value that `floor_small` takes, whose index is below k
pub record Below (x : Float) (k : ℕ) : Type 0 where
  pub small : UpTo x 4194304 1
  pub index : to_unsigned 64 (floor_of x) < k

-- from 0 to below k
pub below : (x : Float) (k : ℕ) → k ≤ 4194304 → T (fits binary32 x) → T (le 0f x) → T (lt x (f32 k)) → Below x k
unfolding of_bits le
below x k K f h l =
    let few : k ≤ 2 ^ 24 = omega arith in
    let less : lt x (f32 k) ≡ true = is_true (lt x (f32 k)) l in
    let u = up_to_of_le x (f32 k) k 1 (lit< tt) (whole_is k few) h (rw less tt) in
    record { small = up_to_more x k 4194304 K u; index = rw (index_is x k few f u) (part_lt x k few u less) }

-- what is left of such a value above its index is at most 1
pub rest_within : (x : Float) → T (fits binary32 x) → UpTo x 4194304 1 → Within (x ⊖ f32 (to_unsigned 64 (floor_of x))) 1 1
rest_within x f u = rw (index_is x 4194304 (lit≤ tt) f u) (by x f u)
  where
    by : (x : Float) → T (fits binary32 x) → UpTo x 4194304 1 → Within (x ⊖ f32 (part x)) 1 1
    by nan f u = absurd u
    by (inf s) f u = absurd u
    by (fin true m e) f u = subst (λ (x : Float). Within (x ⊖ f32 (part x)) 1 1) (zero_is true m e f u) (unfold of_int sub add neg sum round in lit≤ tt)
    by (fin false m e) f u = fraction_within m e f (omega (arith, part_le (fin false m e) 4194304 u))

-- ---- between two whole numbers

either : (a q : ℕ) → a ≤ q → q ≤ suc a → (q ≡ a) ⊎ (q ≡ suc a)
either a q l u = go (eq-or-lt_of_le l)
  where
    go : (a ≡ q) ⊎ (a < q) → (q ≡ a) ⊎ (q ≡ suc a)
    go (inl e) = inl (sym e)
    go (inr h) = inr (omega arith)

-- a value from a to a + 1, where a is 2 ^ 23 or more, has no fraction, so it is one of the two
between : (a : ℕ) (x : Float) → 8388608 ≤ a → T (fits binary32 x) → Signed false x → AtLeast x a 1 → Within x (suc a) 1 → (x ≡ f32 a) ⊎ (x ≡ f32 (suc a))
unfolding floor_of abs_of of_int lt
between a nan A f s l u = absurd l
between a (inf t) A f s l u = absurd l
between a (fin true m e) A f s l u = absurd (true≢false s)
between a (fin false m e) A f s l u =
    let n = m * up e in
    let d = down e in
    let q = n / d in
    let none : n % d ≡ 0 = large (fin false m e) (fin false m e) f refl (le-ltb (n * 1) (8388608 * d) (omega (arith, mul-le-mul_right d A))) in
    let same : n ≡ q * d = omega (arith, div-add-mod' n d) in
    let is : fin false m e ≡ f32 q = floor_kept (fin false m e) f none in
    let low : a * d ≤ q * d = omega arith in
    let high : q * d ≤ suc a * d = omega arith in
    ⊎_elim (λ h. inl (is ∙ ap f32 h)) (λ h. inr (is ∙ ap f32 h)) (either a q (le_of_mul-le-mul_right low (down_pos e)) (le_of_mul-le-mul_right high (down_pos e)))

-- n / d, whose whole part is j, with 2 ^ 23 added
sum_between : (n d j : ℕ) → 0 < d → j * d ≤ n → n < suc j * d → j ≤ 4194304 →
    let r = round binary32 false (n + 8388608 * d) d in (r ≡ f32 (8388608 + j)) ⊎ (r ≡ f32 (suc (8388608 + j)))
sum_between n d j D l u few =
    let a = 8388608 + j in
    let r = round binary32 false (n + 8388608 * d) d in
    let w : Within r (suc a) 1 = round_within binary32 false (n + 8388608 * d) d (suc a) 1 D (rep_down (suc a) 0 (omega arith) (lit≤ tt)) (omega arith) in
    between a r (omega arith) (round-fits binary32 false (n + 8388608 * d) d) (round_signed binary32 false (n + 8388608 * d) d)
    (round_at_least binary32 (n + 8388608 * d) d a 1 D (rep_down a 0 (omega arith) (lit≤ tt)) (omega arith) (within_finite r (suc a) 1 w)) w

-- ---- what the code makes of x: 2 ^ 23 added and taken off

abbrev pub big : Float
big = of_bits binary32 0x4b00_0000

abbrev pub nearly : Float → Float
nearly x = x ⊕ big ⊖ big

-- it is the whole part j, and x is not below it; or j + 1, and x is
abbrev Nearly : Float → ℕ → Type 0
Nearly x j = ((nearly x ≡ f32 j) × (lt x (nearly x) ≡ false)) ⊎ ((nearly x ≡ f32 (suc j)) × (lt x (nearly x) ≡ true))

pub add_big : (m : ℕ) (e : ℤ) → fin false m e ⊕ big ≡ round binary32 false (m * up e + 8388608 * down e) (down e)
unfolding add sum of_bits
add_big m e = rw (mul-one (m * up e), mul-one (down e))

less_big : (k : ℕ) → k ≤ 8388608 → f32 (8388608 + k) ⊖ big ≡ f32 k
less_big k h =
    let q : 8388608 + k - 8388608 ≡ k = omega arith in
    let b : big ≡ f32 8388608 = unfold of_bits of_int round in refl in
    ap (λ (z : Float). f32 (8388608 + k) ⊖ z) b ∙ sub_whole (8388608 + k) 8388608 (omega arith) (omega arith) ∙ ap f32 q

nearly_is : (x : Float) → T (fits binary32 x) → UpTo x 4194304 1 → Nearly x (part x)
nearly_is nan f u = absurd u
nearly_is (inf s) f u = absurd u
nearly_is (fin true m e) f u = subst (λ (x : Float). Nearly x (part x)) (zero_is true m e f u) (unfold of_bits of_int add sub neg sum round lt in inl (refl, refl))
nearly_is (fin false m e) f u =
    let n = m * up e in
    let d = down e in
    let j = n / d in
    let x = fin false m e in
    let D : 0 < d = down_pos e in
    let low : j * d ≤ n = omega (arith, div-add-mod' n d) in
    let high : n < suc j * d = (div-lt_iff_lt-mul D).0 (omega arith) in
    let few : j ≤ 4194304 = part_le x 4194304 u in
    let test : (k : ℕ) → k ≤ 2 ^ 24 → lt x (f32 k) ≡ ltb (n * 1) (k * d) = λ k K. lt_values x (f32 k) n d k 1 D (lit< tt) (refl, refl) (whole_is k K) in
    let off : (k : ℕ) → k ≤ 8388608 → round binary32 false (n + 8388608 * d) d ≡ f32 (8388608 + k) → nearly x ≡ f32 k = λ k K h. ap (λ (z : Float). z ⊖ big) (add_big m e ∙ h) ∙ less_big k K in
    let next : suc (8388608 + j) ≡ 8388608 + suc j = omega arith in
    ⊎_elim
    (λ h. let g = off j (omega arith) h in inl (g, ap (lt x) g ∙ test j (omega arith) ∙ le-ltb (n * 1) (j * d) (omega arith)))
    (λ h. let g = off (suc j) (omega arith) (h ∙ ap f32 next) in inr (g, ap (lt x) g ∙ test (suc j) (omega arith) ∙ lt-ltb (n * 1) (suc j * d) (omega arith)))
    (sum_between n d j D low high few)

-- ---- THE LAW: 1 less where the test tells so, the floor as a whole number

pub floor_less : (x : Float) → T (fits binary32 x) → UpTo x 4194304 1 → nearly x ⊖ pick (lt x (nearly x)) 1f 0f ≡ f32 (to_unsigned 64 (floor_of x))
floor_less x f u = by (nearly_is x f u)
  where
    -- j + k less k
    less : (j k : ℕ) (v : Float) → j ≤ 4194304 → k ≤ 1 → v ≡ f32 k → f32 (j + k) ⊖ v ≡ f32 j
    less j k v J K e =
        let q : j + k - k ≡ j = omega arith in
        ap (λ (z : Float). f32 (j + k) ⊖ z) e ∙ sub_whole (j + k) k (omega arith) (omega arith) ∙ ap f32 q

    by : Nearly x (part x) → nearly x ⊖ pick (lt x (nearly x)) 1f 0f ≡ f32 (to_unsigned 64 (floor_of x))
    by (inl p) =
        let j = part x in
        let same : j ≡ j + 0 = omega arith in
        ap₂ ◌⊖◌ (p.0 ∙ ap f32 same) (pick_false (lt x (nearly x)) 1f 0f p.1)
        ∙ less j 0 0f (part_le x 4194304 u) (omega arith) (unfold of_bits of_int round in refl)
        ∙ ap f32 (sym (index_is x 4194304 (lit≤ tt) f u))
    by (inr p) =
        let j = part x in
        let next : suc j ≡ j + 1 = omega arith in
        ap₂ ◌⊖◌ (p.0 ∙ ap f32 next) (pick_true (lt x (nearly x)) 1f 0f p.1)
        ∙ less j 1 1f (part_le x 4194304 u) (omega arith) (unfold of_bits of_int round in refl)
        ∙ ap f32 (sym (index_is x 4194304 (lit≤ tt) f u))
