-- Whole numbers with a sign as f32: their sums and tests are those of the whole numbers. Assumes nothing.
use mathlib.Core.Path.{◌≡◌, refl, sym, ap, ◌∙◌}
use mathlib.Core.Bool.{Bool, true, false, cond}
use Prim.Native.Nat.{ℕ, zero, suc, ◌+◌, ◌-◌, ◌*◌, ◌^◌, ◌≤◌, ◌<◌}
use native.Mathlib.Nat.{le_of_eq, lt_irrefl, zero-mul, mul-one, mul_comm, mul-pos, mul-lt-mul_of_pos_right, lt_of_lt_of_le, le-add_right}
use native.Mathlib.Omega.{arith}
use borrow.Author.Tests.{lt-ltb, le-ltb, ltb-true, ltb-false}
use lib.Dec.{ltb, eqb, leb-zero, eqb-zero-suc, lit<}
use lib.IntN.{ℤ, pos, negsuc, nat_abs, sub_ℕ, ◌+ℤ◌}
use lib.Signed.{le_z, lt_z}
use lib.Ieee.{Float, fin, Format, binary32, up, down, round, neg, sub, le, lt, eq, of_int, of_bits}
use lib.Ieee.Fits.{down_pos}
use lib.Ieee.Back.{round_whole}
use lib.Ieee.Exact.{HasValue}
use Rattle.floats.specs.F32.{◌⊕◌, ◌⊖◌, f32, 0f}
use Rattle.floats.proofs.Within.{round_neg}
use Rattle.floats.proofs.Exactly.{whole_is, add_whole}
use Rattle.floats.proofs.Values.{by_value, by_values}
use Rattle.floats.proofs.Signs.{sub_is, sub_whole}
use Rattle.floats.proofs.Tests.{lt_values, above_zero}

-- ---- sums

-- a smaller value less a larger one is the larger less the smaller, negated
sub_swap : (f : Format) (x y : Float) (a b c : ℕ) → 0 < c → a < b → HasValue x false a c → HasValue y false b c → sub f x y ≡ neg (sub f y x)
sub_swap f x y a b c C l h k = by_values (λ x y. sub f x y ≡ neg (sub f y x)) false false a c b c by x y h k
  where
    not_less : {p q : ℕ} → p < q → p ≤ q
    not_less l = omega arith

    by : (m : ℕ) (e : ℤ) (n : ℕ) (d : ℤ) → m * up e * c ≡ a * down e → n * up d * c ≡ b * down d → sub f (fin false m e) (fin false n d) ≡ neg (sub f (fin false n d) (fin false m e))
    by m e n d h k =
        let p : ℕ = m * up e * down d in
        let q : ℕ = n * up d * down e in
        let below : ltb p q ≡ true = unfold lt in lt_values (fin false m e) (fin false n d) a c b c C C (refl, h) (refl, k) ∙ lt-ltb (a * c) (b * c) (mul-lt-mul_of_pos_right l C) in
        let above : ltb q p ≡ false = le-ltb q p (not_less (ltb-true p q below)) in
        sub_is f m e n d
        ∙ ap (λ (t : Bool). cond t (round f true (q - p) (down e * down d)) (round f false (p - q) (down e * down d))) below
        ∙ round_neg f (q - p) (down e * down d)
        ∙ ap (λ (z : ℕ). neg (round f false (q - p) z)) (mul_comm (down e) (down d))
        ∙ ap neg (sym (sub_is f n d m e ∙ ap (λ (t : Bool). cond t (round f true (p - q) (down d * down e)) (round f false (q - p) (down d * down e))) above))

-- -(n + 1)
below_is : (n : ℕ) → of_int binary32 (negsuc n) ≡ neg (f32 (suc n))
unfolding of_int
below_is n = round_neg binary32 (suc n) 1

below_value : (n : ℕ) → suc n ≤ 2 ^ 24 → HasValue (of_int binary32 (negsuc n)) true (suc n) 1
unfolding of_int
below_value n h = round_whole binary32 true (suc n) h

-- a - b
sub_whole_any : (a b : ℕ) → a ≤ 2 ^ 24 → b ≤ 2 ^ 24 → f32 a ⊖ f32 b ≡ of_int binary32 (sub_ℕ a b)
sub_whole_any a b A B = by (ltb a b) refl
  where
    one_more : (a b : ℕ) → a < b → suc (b - suc a) ≡ b - a
    one_more a b l = omega arith

    by : (t : Bool) → ltb a b ≡ t → f32 a ⊖ f32 b ≡ of_int binary32 (cond (ltb a b) (negsuc (b - suc a)) (pos (a - b)))
    by true e =
        let l = ltb-true a b e in
        sub_swap binary32 (f32 a) (f32 b) a b 1 (lit< tt) l (whole_is a A) (whole_is b B)
        ∙ ap neg (sub_whole b a (omega arith) B)
        ∙ ap (λ (z : ℕ). neg (f32 z)) (sym (one_more a b l))
        ∙ sym (below_is (b - suc a))
        ∙ ap (λ (t : Bool). of_int binary32 (cond t (negsuc (b - suc a)) (pos (a - b)))) (sym e)
    by false e = sub_whole a b (ltb-false a b e) A ∙ ap (λ (t : Bool). of_int binary32 (cond t (negsuc (b - suc a)) (pos (a - b)))) (sym e)

-- x + n, n of either sign
pub add_int : (x : ℕ) (n : ℤ) → x + nat_abs n ≤ 2 ^ 24 → f32 x ⊕ of_int binary32 n ≡ of_int binary32 (pos x +ℤ n)
add_int x (pos a) h = add_whole x a h
add_int x (negsuc a) h = ap (λ (z : Float). f32 x ⊕ z) (below_is a) ∙ unfold sub in sub_whole_any x (suc a) (omega arith) (omega arith)

-- ---- tests

-- of what is not negative
not_negative : (x : Float) (a : ℕ) → HasValue x false a 1 → le 0f x ≡ true
unfolding le eq of_bits
not_negative x a h = by_value (λ x. le 0f x ≡ true) false a 1 (λ m e p. by m e) x h
  where
    some : (m : ℕ) → 0 < suc m
    some m = omega arith

    by : (m : ℕ) (e : ℤ) → le 0f (fin false m e) ≡ true
    by zero e = rw (above_zero false 0 e, zero-mul (up e), zero-mul (down e))
    by (suc m) e = rw (above_zero false (suc m) e, lt-ltb 0 (suc m) (some m))

-- of what is below zero: the digits are not 0, and it is below whatever is not
some_size : (m : ℕ) (e : ℤ) (a : ℕ) → 0 < a → m * up e * 1 ≡ a * down e → 0 < m * up e
some_size m e a A v = lt_of_lt_of_le (mul-pos A (down_pos e)) (le_of_eq (sym v ∙ mul-one (m * up e)))

negative : (x : Float) (a : ℕ) → 0 < a → HasValue x true a 1 → le 0f x ≡ false
unfolding le eq of_bits
negative x a A h = by_value (λ x. le 0f x ≡ false) true a 1 (λ m e p. rw (above_zero true m e, zero-mul (down e), mul-one (m * up e), unlike_zero (m * up e) (some_size m e a A p))) x h
  where
    unlike_zero : (n : ℕ) → 0 < n → eqb 0 n ≡ false
    unlike_zero zero l = absurd (lt_irrefl 0 l)
    unlike_zero (suc n) l = eqb-zero-suc n

under : (x y : Float) (a b : ℕ) → 0 < a → HasValue x true a 1 → HasValue y false b 1 → lt x y ≡ true
unfolding lt
under x y a b A h k =
    by_values (λ x y. lt x y ≡ true) true false a 1 b 1
    (λ m e n d p q. lt-ltb 0 (m * up e * down d + n * up d * down e) (lt_of_lt_of_le (mul-pos (some_size m e a A p) (down_pos d)) (le-add_right (m * up e * down d) (n * up d * down e)))) x y h k

-- 0 ≤ z
pub zero_le_int : (z : ℤ) → nat_abs z ≤ 2 ^ 24 → le 0f (of_int binary32 z) ≡ le_z (pos 0) z
zero_le_int (pos n) h = not_negative (f32 n) n (whole_is n h) ∙ sym (leb-zero n)
zero_le_int (negsuc n) h = negative (of_int binary32 (negsuc n)) (suc n) (omega arith) (below_value n h)

-- z < k
pub lt_int : (z : ℤ) (k : ℕ) → nat_abs z ≤ 2 ^ 24 → k ≤ 2 ^ 24 → lt (of_int binary32 z) (f32 k) ≡ lt_z z (pos k)
lt_int (pos n) k h K = lt_values (f32 n) (f32 k) n 1 k 1 (lit< tt) (lit< tt) (whole_is n h) (whole_is k K) ∙ ap (λ (z : ℕ). ltb z (k * 1)) (mul-one n) ∙ ap (ltb n) (mul-one k)
lt_int (negsuc n) k h K = under (of_int binary32 (negsuc n)) (f32 k) (suc n) k (omega arith) (below_value n h) (whole_is k K)
