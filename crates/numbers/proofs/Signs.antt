-- What is below a number with no sign, told by the sign of a difference; numbers that have no sign. Assumes nothing.
use mathlib.Core.Path.{◌≡◌, refl, sym, ap, ◌∙◌, subst}
use mathlib.Core.Bool.{Bool, true, false, not, cond, true≢false}
use mathlib.Core.Logic.{inl, inr}
use Prim.Native.Nat.{ℕ, zero, suc, ◌+◌, ◌-◌, ◌*◌, ◌^◌, ◌≤◌, ◌<◌}
use native.Mathlib.Nat.{zero-mul, zero-add, mul-pos, lt_of_lt_of_le, le-add_right}
use native.Mathlib.Omega.{arith}
use borrow.Author.Tests.{lt-ltb, le-ltb}
use lib.Dec.{T, ltb, leb, lit≤}
use lib.IntN.{ℤ, pos}
use lib.Ieee.{Float, nan, inf, fin, binary32, up, down, is_nan, round, sum, add, neg, sub, lt, fits, of_bits, to_bits}
use lib.Ieee.Fits.{down_pos, up_pos, add-fits}
use lib.Ieee.Exact.{HasValue}
use lib.Ieee.Scale.{finite}
use Rattle.floats.specs.Bound.{Within, UpTo, AtLeast}
use Rattle.floats.specs.F32.{◌⊕◌, ◌⊖◌, f32, 0f}
use Rattle.floats.proofs.Within.{Signed, round_signed, round_within, within_finite, rep_down}
use Rattle.floats.proofs.Exactly.{whole_is}
use Rattle.floats.proofs.Signs.{sub_is, sub_within_max, round_at_least}
use Rattle.floats.proofs.Tests.{zero_is}
use Rattle.floats.proofs.Patterns.{own_pattern}
use Rattle.floats.proofs.Zeros.{Zero, plus_zero}
use Rattle.numbers.specs.Numbers.{Unsigned}
use Rattle.numbers.proofs.Small.{big, nearly, add_big}

-- ---- the highest bit is the sign

sign_told : (x : Float) (s : Bool) → T (fits binary32 x) → Signed s x → leb 2147483648 (to_bits binary32 x) ≡ s
unfolding to_bits
sign_told nan s f h = absurd h
sign_told (inf true) s f h = h
sign_told (inf false) s f h = h
sign_told (fin t m e) s f h = sym (own_pattern (fin t m e) f tt).0 ∙ h

signed_number : (x : Float) (s : Bool) → Signed s x → T (not (is_nan x))
unfolding is_nan
signed_number nan s h = absurd h
signed_number (inf t) s h = tt
signed_number (fin t m e) s h = tt

signed_false : (m : ℕ) (e : ℤ) (n : ℕ) (d : ℤ) → Signed (lt (fin false m e) (fin false n d)) (fin false m e ⊖ fin false n d)
unfolding lt
signed_false m e n d =
    let A = m * up e * down d in
    let B = n * up d * down e in
    subst (Signed (ltb A B)) (sym (sub_is binary32 m e n d)) (go (ltb A B) (B - A) (A - B) (down e * down d))
  where
    go : (c : Bool) (a b q : ℕ) → Signed c (cond c (round binary32 true a q) (round binary32 false b q))
    go true a b q = round_signed binary32 true a q
    go false a b q = round_signed binary32 false b q

-- ---- a number with 0 added: -0 has become 0

is_minus : Float → Bool
is_minus nan = false
is_minus (inf s) = s
is_minus (fin s m e) = s

has_digits : Float → Bool
has_digits nan = false
has_digits (inf s) = false
has_digits (fin s m e) = ltb 0 m

zero_0f : Zero 0f
unfolding of_bits
zero_0f = (false, refl)

kept_false : (m : ℕ) (e : ℤ) → T (fits binary32 (fin false m e)) → fin false m e ⊕ 0f ≡ fin false m e
unfolding neg of_bits is_minus
kept_false m e f = elim (plus_zero (fin false m e) 0f f tt zero_0f) [ inl p ↦ p | inr p ↦ absurd (true≢false (sym (ap is_minus p.1))) ]

some : (m : ℕ) → 0 < suc m
some m = omega arith

kept_true : (m : ℕ) (e : ℤ) → T (fits binary32 (fin true (suc m) e)) → fin true (suc m) e ⊕ 0f ≡ fin true (suc m) e
unfolding neg of_bits has_digits
kept_true m e f = elim (plus_zero (fin true (suc m) e) 0f f tt zero_0f) [ inl p ↦ p | inr p ↦ absurd (true≢false (sym (lt-ltb 0 (suc m) (some m)) ∙ ap has_digits p.1)) ]

sub_true : (m : ℕ) (e : ℤ) (n : ℕ) (d : ℤ) → fin true m e ⊖ fin false n d ≡ round binary32 true (m * up e * down d + n * up d * down e) (down e * down d)
unfolding sub neg add sum
sub_true m e n d = refl

signed_zero : (n : ℕ) (d : ℤ) → Signed (lt (fin true 0 (pos 0)) (fin false n d)) (fin true 0 (pos 0) ⊕ 0f ⊖ fin false n d)
signed_zero n d =
    let z : fin true 0 (pos 0) ⊕ 0f ≡ fin false 0 (pos 0) = unfold of_bits add sum round in refl in
    let e : lt (fin false 0 (pos 0)) (fin false n d) ≡ lt (fin true 0 (pos 0)) (fin false n d) = unfold lt in rw (zero-mul (down d), zero-add (n * up d * 1)) refl in
    subst (λ (v : Float). Signed (lt (fin true 0 (pos 0)) (fin false n d)) (v ⊖ fin false n d)) (sym z) (subst (λ (t : Bool). Signed t (fin false 0 (pos 0) ⊖ fin false n d)) e (signed_false 0 (pos 0) n d))

signed_is : (a b : Float) → T (fits binary32 a) → T (finite a) → Unsigned b → Signed (lt a b) (a ⊕ 0f ⊖ b)
signed_is nan b f g u = absurd g
signed_is (inf s) b f g u = absurd g
signed_is (fin s m e) nan f g u = absurd u
signed_is (fin s m e) (inf t) f g u = absurd u
signed_is (fin s m e) (fin true n d) f g u = absurd (true≢false u)
signed_is (fin false m e) (fin false n d) f g u = subst (λ (v : Float). Signed (lt (fin false m e) (fin false n d)) (v ⊖ fin false n d)) (sym (kept_false m e f)) (signed_false m e n d)
signed_is (fin true zero e) (fin false n d) f g u = subst (λ (v : Float). Signed (lt v (fin false n d)) (v ⊕ 0f ⊖ fin false n d)) (zero_is true 0 e f refl) (signed_zero n d)
signed_is (fin true (suc m) e) (fin false n d) f g u =
    let a = fin true (suc m) e in
    let b = fin false n d in
    let A = suc m * up e * down d in
    let B = n * up d * down e in
    let s : Signed true (a ⊖ b) = subst (Signed true) (sym (sub_true (suc m) e n d)) (round_signed binary32 true (A + B) (down e * down d)) in
    let l : lt a b ≡ true = unfold lt in lt-ltb 0 (A + B) (lt_of_lt_of_le (mul-pos (mul-pos (some m) (up_pos e)) (down_pos d)) (le-add_right A B)) in
    subst (λ (t : Bool). Signed t (a ⊕ 0f ⊖ b)) (sym l) (subst (λ (v : Float). Signed true (v ⊖ b)) (sym (kept_true m e f)) s)

module _ (a b : Float) (f : T (fits binary32 a)) (g : T (finite a)) (u : Unsigned b) where
  pub below_told : leb 2147483648 (to_bits binary32 (a ⊕ 0f ⊖ b)) ≡ lt a b
  unfolding sub
  below_told = sign_told (a ⊕ 0f ⊖ b) (lt a b) (add-fits binary32 (a ⊕ 0f) (neg b)) (signed_is a b f g u)

  pub below_number : T (not (is_nan (a ⊕ 0f ⊖ b)))
  below_number = signed_number (a ⊕ 0f ⊖ b) (lt a b) (signed_is a b f g u)

-- ---- numbers with no sign

unsigned_of : (x : Float) → Signed false x → T (finite x) → Unsigned x
unsigned_of nan s f = s
unsigned_of (inf t) s f = f
unsigned_of (fin t m e) s f = s

value_unsigned : (x : Float) (a c : ℕ) → HasValue x false a c → Unsigned x
value_unsigned nan a c h = h
value_unsigned (inf t) a c h = h
value_unsigned (fin t m e) a c h = h.0

pub whole_unsigned : (n : ℕ) → n ≤ 2 ^ 24 → Unsigned (f32 n)
whole_unsigned n N = value_unsigned (f32 n) n 1 (whole_is n N)

pub up_to_finite : (x : Float) (a c : ℕ) → UpTo x a c → T (finite x)
up_to_finite nan a c h = h
up_to_finite (inf s) a c h = h
up_to_finite (fin true m e) a c h = tt
up_to_finite (fin false m e) a c h = tt

-- x with 2 ^ 23 added and taken off again
less_big : (y : Float) → Signed false y → Within y 12582912 1 → AtLeast y 8388608 1 → Unsigned (y ⊖ big)
less_big nan s w l = absurd s
less_big (inf t) s w l = absurd w
less_big (fin true n d) s w l = absurd (true≢false s)
less_big (fin false n d) s w l =
    let is : big ≡ fin false 1 (pos 23) = unfold of_bits in refl in
    let more : ltb (n * up d * 1) (1 * 8388608 * down d) ≡ false = le-ltb (n * up d * 1) (1 * 8388608 * down d) (omega arith) in
    let part = fin false n d ⊖ fin false 1 (pos 23) in
    let sign : Signed false part =
    subst (Signed false) (sym (sub_is binary32 n d 1 (pos 23) ∙ ap (λ (b : Bool). cond b (round binary32 true (1 * 8388608 * down d - n * up d * 1) (down d * 1)) (round binary32 false (n * up d * 1 - 1 * 8388608 * down d) (down d * 1))) more))
    (round_signed binary32 false (n * up d * 1 - 1 * 8388608 * down d) (down d * 1)) in
    let few : Within part 12582912 1 = sub_within_max binary32 (fin false n d) (fin false 1 (pos 23)) 12582912 1 (rep_down 12582912 0 (lit≤ tt) (lit≤ tt)) refl refl w (lit≤ tt) in
    subst (λ (v : Float). Unsigned (fin false n d ⊖ v)) (sym is) (unsigned_of part sign (within_finite part 12582912 1 few))

pub nearly_unsigned : (x : Float) → T (fits binary32 x) → UpTo x 4194304 1 → Unsigned (nearly x)
nearly_unsigned nan f u = absurd u
nearly_unsigned (inf s) f u = absurd u
nearly_unsigned (fin true m e) f u = subst (λ (x : Float). Unsigned (nearly x)) (zero_is true m e f u) (unfold of_bits add sub neg sum round in refl)
nearly_unsigned (fin false m e) f u =
    let N = m * up e + 8388608 * down e in
    let y = round binary32 false N (down e) in
    let w : Within y 12582912 1 = round_within binary32 false N (down e) 12582912 1 (down_pos e) (rep_down 12582912 0 (lit≤ tt) (lit≤ tt)) (omega arith) in
    let l : AtLeast y 8388608 1 = round_at_least binary32 N (down e) 8388608 1 (down_pos e) (rep_down 8388608 0 (lit≤ tt) (lit≤ tt)) (omega arith) (within_finite y 12582912 1 w) in
    subst (λ (v : Float). Unsigned (v ⊖ big)) (sym (add_big m e)) (less_big y (round_signed binary32 false N (down e)) w l)
