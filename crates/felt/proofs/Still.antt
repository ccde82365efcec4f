-- Nothing is felt exactly where the motion is less than half a step; and the shift that keeps a point in its place, rounded to f32, is that near. Assumes nothing.
use mathlib.Core.Path.{◌≡◌, refl, sym, ap, subst, ◌∙◌}
use mathlib.Core.Logic.{inl, inr}
use mathlib.Core.Bool.{Bool, true, false}
use Prim.Native.Nat.{ℕ, zero, suc, ◌+◌, ◌-◌, ◌*◌, ◌/◌, ◌^◌, ◌≤◌, ◌<◌, min}
use native.Mathlib.Nat.{le_trans, add-mul, mul-le-mul, mul-le-mul_left, le_of_mul-le-mul_right, div-eq_of_lt, le-div_iff_mul-le}
use native.Mathlib.Omega.{arith}
use borrow.Author.Tests.{lt-ltb, le-ltb}
use lib.Dec.{T, lit<, lit≤}
use lib.IntN.{pos, neg_ℤ}
use lib.Pow.{pow_pos}
use lib.Ieee.{Float, binary32, fits, round}
use lib.Ieee.Scale.{finite}
use Rattle.lists.proofs.Cases.{pick_true, pick_false}
use Rattle.floats.specs.Bound.{Within}
use Rattle.floats.specs.Units.{sign_of}
use Rattle.floats.proofs.Values.{value_finite, value_sign}
use Rattle.floats.proofs.Patterns.{lt_or_le, value_units}
use Rattle.floats.proofs.Nearest.{RoundedTo, rounded_to}
use Rattle.middle.specs.Held.{capped_of, nearest_capped, difference_of}
use Rattle.middle.specs.Motion.{share_of, image_of, motion_of}
use Rattle.felt.specs.Still.{StillExactly, keeping_of, KeptInPlace}
use Rattle.middle.proofs.Nearest.{back, ahead}
use Rattle.middle.proofs.Terms.{share_le, own_share, other_share}

-- ---- 0 is what is nearest to less than a half, and to nothing else

capped_zero : (s : Bool) → capped_of s 0 ≡ pos 0
capped_zero true = refl
capped_zero false = refl

pub small_zero : (s : Bool) (n d : ℕ) → 2 * n < d → nearest_capped s n d ≡ pos 0
unfolding nearest_capped
small_zero s n d h = ap (capped_of s) (div-eq_of_lt (omega arith)) ∙ capped_zero s

backward_some : (k : ℕ) → 1 ≤ k → neg_ℤ (pos k) ≡ pos 0 → ⊥
backward_some zero h e = omega (arith, h)
backward_some (suc k) h e = let z : ◌≡◌ {A = ℕ} 0 1 = cc in omega arith

forward_some : (k : ℕ) → 1 ≤ k → pos k ≡ pos 0 → ⊥
forward_some k h e = let z : k ≡ 0 = cc in omega arith

capped_some : (s : Bool) (n : ℕ) → 1 ≤ n → capped_of s n ≡ pos 0 → ⊥
capped_some true n h e = backward_some (min n 32768) (omega (arith, h)) e
capped_some false n h e = forward_some (min n 32767) (omega (arith, h)) e

zero_small : (s : Bool) (n d : ℕ) → 0 < d → nearest_capped s n d ≡ pos 0 → 2 * n < d
unfolding nearest_capped
zero_small s n d D e = elim (lt_or_le (2 * n) d) [
  | inl l ↦ l
  | inr g ↦ absurd (capped_some s ((2 * n + d) / (2 * d)) ((le-div_iff_mul-le (omega arith)).1 (omega arith)) e)
]

difference_still : (g l d : ℕ) → (2 * (g - l) < d) × (2 * (l - g) < d) → difference_of g l d ≡ pos 0
difference_still g l d h = elim (lt_or_le g l) [ inl k ↦ back g l d k ∙ small_zero true (l - g) d h.1 | inr k ↦ ahead g l d k ∙ small_zero false (g - l) d h.0 ]

still_difference : (g l d : ℕ) → 0 < d → difference_of g l d ≡ pos 0 → (2 * (g - l) < d) × (2 * (l - g) < d)
still_difference g l d D e = elim (lt_or_le g l) [
  | inl k ↦ (omega (arith, D, k), zero_small true (l - g) d D (sym (back g l d k) ∙ e))
  | inr k ↦ (zero_small false (g - l) d D (sym (ahead g l d k) ∙ e), omega (arith, D, k))
]

pub still_exactly : StillExactly
unfolding motion_of
still_exactly p a q b t =
    let g = image_of false p a q b t in
    let l = image_of true p a q b t + 128 * (2 ^ 149 * a) in
    (difference_still g l (2 ^ 149), still_difference g l (2 ^ 149) (pow_pos 149))

-- ---- the shift that keeps a point in its place

-- h is the shift in units and n twice the exact one; u, 4096 w, is a unit, and h lies within w of n / 2
module _ (u w x y x' y' z h n m : ℕ) (unit : u ≡ 4096 * w) (some : 0 < w) (under : 2 * h ≤ n + 2 * w) (over : n ≤ 2 * h + 2 * w) (none : m ≡ 0) where
  kept_ahead : x + y + n ≡ x' + y' + z
      → (2 * (128 * (x + y) + 256 * h - (128 * (x' + y') + 256 * m + 128 * z)) < u) × (2 * (128 * (x' + y') + 256 * m + 128 * z - (128 * (x + y) + 256 * h)) < u)
  kept_ahead e = (omega arith, omega arith)

  kept_back : x + y ≡ x' + y' + z + n
      → (2 * (128 * (x + y) + 256 * m - (128 * (x' + y') + 256 * h + 128 * z)) < u) × (2 * (128 * (x' + y') + 256 * h + 128 * z - (128 * (x + y) + 256 * m)) < u)
  kept_back e = (omega arith, omega arith)

halved : (h n w u : ℕ) → 0 < u → h * (2 * u) ≤ n * u + w * (2 * u) → 2 * h ≤ n + 2 * w
halved h n w u U k = le_of_mul-le-mul_right (omega (arith, k, add-mul n (2 * w) u)) U

doubled : (h n w u : ℕ) → 0 < u → n * u ≤ h * (2 * u) + w * (2 * u) → n ≤ 2 * h + 2 * w
doubled h n w u U k = le_of_mul-le-mul_right (omega (arith, k, add-mul (2 * h) (2 * w) u)) U

few : (u x y z n : ℕ) → x ≤ 4095 * u → y ≤ 8190 * u → z ≤ 4095 * u → n ≤ x + y + z → n ≤ 2 * u * 8192
few u x y z n a b c h = omega arith

module _ (p : Float) (a : ℕ) (q : Float) (b : ℕ) (P : T (fits binary32 p)) (Q : T (fits binary32 q)) (p_le : Within p 1 1) (q_le : Within q 2 1) (A : a ≤ 4095) (B : b ≤ 4095) where
  -- the exact shift, ±n / (2 * 2 ^ 149), rounded: its units
  module _ (s : Bool) (n : ℕ) (h : n ≤ 2 * 2 ^ 149 * 8192) where
    t : Float
    t = round binary32 s n (2 * 2 ^ 149)

    near : RoundedTo s n (2 * 2 ^ 149) (2 ^ 137)
    near = rounded_to s n (2 * 2 ^ 149) 13 (lit< tt) (lit≤ tt) h

    t_finite : T (finite t)
    unfolding t
    t_finite = value_finite t s near.h (2 ^ 149) near.value

    sign : sign_of t ≡ s
    unfolding t
    sign = value_sign t s near.h (2 ^ 149) near.value

    own : share_of s t ≡ near.h
    unfolding t
    own = own_share s t sign ∙ value_units t s near.h near.value

    under : 2 * share_of s t ≤ n + 2 * 2 ^ 137
    under = rw own (halved near.h n (2 ^ 137) (2 ^ 149) (pow_pos 149) near.under)

    over : n ≤ 2 * share_of s t + 2 * 2 ^ 137
    over = rw own (doubled near.h n (2 ^ 137) (2 ^ 149) (pow_pos 149) near.over)

  -- by which of the two sums is less
  x : Bool → ℕ
  x s = share_of s p * a

  y : Bool → ℕ
  y s = share_of s q * b

  forward : (n : ℕ) (h : n ≤ 2 * 2 ^ 149 * 8192) → x false + y false + n ≡ x true + y true + 2 ^ 149 * a → motion_of p a q b (t false n h) ≡ pos 0
  unfolding x y
  forward n h e =
      (still_exactly p a q b (t false n h)).0
      (kept_ahead (2 ^ 149) (2 ^ 137) (x false) (y false) (x true) (y true) (2 ^ 149 * a) (share_of false (t false n h)) n (share_of true (t false n h)) refl (pow_pos 137) (under false n h) (over false n h) (other_share false (t false n h) (sign false n h)) e)

  backward : (n : ℕ) (h : n ≤ 2 * 2 ^ 149 * 8192) → x false + y false ≡ x true + y true + 2 ^ 149 * a + n → motion_of p a q b (t true n h) ≡ pos 0
  unfolding x y
  backward n h e =
      (still_exactly p a q b (t true n h)).0
      (kept_back (2 ^ 149) (2 ^ 137) (x false) (y false) (x true) (y true) (2 ^ 149 * a) (share_of true (t true n h)) n (share_of false (t true n h)) refl (pow_pos 137) (under true n h) (over true n h) (other_share true (t true n h) (sign true n h)) e)

  x_le : (s : Bool) → x s ≤ 4095 * 2 ^ 149
  unfolding x
  x_le s = le_trans (mul-le-mul (share_le s p 1 P p_le) A) (lit≤ tt)

  y_le : (s : Bool) → y s ≤ 8190 * 2 ^ 149
  unfolding y
  y_le s = le_trans (mul-le-mul (share_le s q 2 Q q_le) B) (lit≤ tt)

  z_le : 2 ^ 149 * a ≤ 4095 * 2 ^ 149
  z_le = le_trans (mul-le-mul_left (2 ^ 149) A) (lit≤ tt)

  -- which of the two it is, how far, and what holds of either holds of the shift
  by_sums : (Q : Float → Type 0) → ((n : ℕ) (h : n ≤ 2 * 2 ^ 149 * 8192) → x false + y false + n ≡ x true + y true + 2 ^ 149 * a → Q (t false n h))
      → ((n : ℕ) (h : n ≤ 2 * 2 ^ 149 * 8192) → x false + y false ≡ x true + y true + 2 ^ 149 * a + n → Q (t true n h)) → Q (keeping_of p a q b)
  unfolding keeping_of t x y
  by_sums Q forth back =
      let g = x false + y false in
      let l = x true + y true + 2 ^ 149 * a in
      elim (lt_or_le g l) [
        | inl k ↦ subst Q (sym (pick_true _ _ _ (lt-ltb g l k))) (forth (l - g) (few (2 ^ 149) (x true) (y true) (2 ^ 149 * a) (l - g) (x_le true) (y_le true) z_le (less g l)) (more g l k))
        | inr k ↦
            subst Q (sym (pick_false _ _ _ (le-ltb g l k))) (back (g - l) (few (2 ^ 149) (x false) (y false) (2 ^ 149 * a) (g - l) (x_le false) (y_le false) z_le (le_trans (less l g) (wider g (2 ^ 149 * a)))) (rest g l k))
      ]
    where
      less : (g l : ℕ) → l - g ≤ l
      less g l = omega arith

      wider : (g z : ℕ) → g ≤ g + z
      wider g z = omega arith

      more : (g l : ℕ) → g < l → g + (l - g) ≡ l
      more g l h = omega arith

      rest : (g l : ℕ) → l ≤ g → g ≡ l + (g - l)
      rest g l h = omega arith

  pub keeping_finite : T (finite (keeping_of p a q b))
  keeping_finite = by_sums (λ r. T (finite r)) (λ n h e. t_finite false n h) (λ n h e. t_finite true n h)

  kept_in_place : motion_of p a q b (keeping_of p a q b) ≡ pos 0
  kept_in_place = by_sums (λ r. motion_of p a q b r ≡ pos 0) forward backward

pub kept : KeptInPlace
kept p a q b P Q p_le q_le A B = kept_in_place p a q b P Q p_le q_le (omega (arith, A)) (omega (arith, B))
