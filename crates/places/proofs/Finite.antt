-- A point inside, by what is below what; the points of a map with small entries are finite. Assumes nothing.
use mathlib.Core.Path.{◌≡◌, refl, sym, ap, ◌∙◌}
use mathlib.Core.Bool.{Bool, true, false, not, ◌&&◌}
use Prim.Native.Nat.{ℕ, zero, suc, ◌-◌, ◌*◌, ◌^◌, ◌≤◌, ◌<◌}
use native.Mathlib.Nat.{zero-mul, mul-pos, lt_irrefl}
use native.Mathlib.Omega.{arith}
use borrow.Author.Tests.{lt-ltb}
use lib.Dec.{T, eqb, eqb-zero-suc, lit<, lit≤}
use lib.IntN.{ℤ}
use lib.Ieee.{Float, nan, inf, fin, binary32, up, down, neg, lt, eq, le, of_bits}
use lib.Ieee.Fits.{up_pos}
use lib.Ieee.Scale.{finite}
use Rattle.floats.specs.Bound.{Within}
use Rattle.floats.specs.F32.{◌⊕◌, ◌⊗◌, f32, 0f}
use Rattle.floats.proofs.Within.{within_finite, within_more, mul_within, add_within, rep_up, rep_pow}
use Rattle.floats.proofs.Exactly.{whole_is, value_within}
use Rattle.floats.proofs.Signs.{within_of_le}
use Rattle.floats.proofs.Tests.{below_zero, above_zero}
use Rattle.pose.specs.declared.Map.{Map}
use Rattle.places.specs.Point.{sx_of, sy_of, inside, Small}

-- ---- a point inside, by what is below what

some : (m : ℕ) → 0 < suc m
some m = omega arith

le_zero : (s : Bool) (m : ℕ) (e : ℤ) → le 0f (fin s m e) ≡ not (lt (fin s m e) 0f)
unfolding le eq of_bits
le_zero false zero e = rw (above_zero false 0 e, below_zero false 0 e, zero-mul (up e), zero-mul (down e)) refl
le_zero false (suc m) e = rw (above_zero false (suc m) e, below_zero false (suc m) e, lt-ltb 0 (suc m) (some m)) refl
le_zero true zero e = rw (below_zero true 0 e, zero-mul (up e), zero-mul (down e)) refl
le_zero true (suc m) e = rw (below_zero true (suc m) e, zero-mul (down e), unlike_zero (suc m * up e * 1) (mul-pos (mul-pos (some m) (up_pos e)) (lit< tt)), lt-ltb 0 (suc m) (some m)) refl
  where
    unlike_zero : (n : ℕ) → 0 < n → eqb 0 n ≡ false
    unlike_zero zero l = absurd (lt_irrefl 0 l)
    unlike_zero (suc n) l = eqb-zero-suc n

and_true : (a : Bool) → (a && true) ≡ a
and_true true = refl
and_true false = refl

and_false : (a : Bool) → (a && false) ≡ false
and_false true = refl
and_false false = refl

-- a NaN is not below 0, and not below r either
from_zero : (v r : Float) → (not (lt v 0f) && lt v r) ≡ (le 0f v && lt v r)
unfolding le lt eq of_bits
from_zero nan r = refl
from_zero (inf true) r = refl
from_zero (inf false) r = refl
from_zero (fin s m e) r = ap (λ (b : Bool). b && lt (fin s m e) r) (sym (le_zero s m e))

pub inside_told : (w h : ℕ) (sx sy : Float) → (not (lt sx 0f) && not (lt sy 0f) && lt sx (f32 (w - 1)) && lt sy (f32 (h - 1))) ≡ inside w h sx sy
unfolding inside
inside_told w h sx sy = four (not (lt sx 0f)) (not (lt sy 0f)) (lt sx (f32 (w - 1))) (lt sy (f32 (h - 1))) (le 0f sx) (le 0f sy) (from_zero sx (f32 (w - 1))) (from_zero sy (f32 (h - 1)))
  where
    four : (a b c d a' b' : Bool) → (a && c) ≡ (a' && c) → (b && d) ≡ (b' && d) → (a && b && c && d) ≡ (a' && b' && c && d)
    four a b true true a' b' p q = rw (sym (and_true a) ∙ p ∙ and_true a', sym (and_true b) ∙ q ∙ and_true b') refl
    four a b true false a' b' p q = and_false (a && b && true) ∙ sym (and_false (a' && b' && true))
    four a b false d a' b' p q = ap (λ (z : Bool). z && d) (and_false (a && b) ∙ sym (and_false (a' && b')))

-- ---- the points of a map with small entries are finite

module _ (map : Map) (s : Small map) where
  times : (v : Float) (x : ℕ) → x ≤ 4096 → Within v (2 ^ 80) 1 → Within (v ⊗ f32 x) (2 ^ 92) 1
  times v x X h =
      mul_within binary32 v (f32 x) (2 ^ 80) 1 4096 1 (2 ^ 92) 1 (lit< tt) (lit< tt) (rep_pow 92 (lit≤ tt)) (lit≤ tt) h
      (within_more (f32 x) x 1 4096 1 (lit< tt) (value_within (f32 x) false x 1 (whole_is x (omega arith))) (omega arith))

  point : (u v t : Float) (x y : ℕ) → x ≤ 4096 → y ≤ 4096 → Within u (2 ^ 80) 1 → Within v (2 ^ 80) 1 → Within t (2 ^ 80) 1 → T (finite (u ⊗ f32 x ⊕ v ⊗ f32 y ⊕ t))
  point u v t x y X Y hu hv ht =
      let two = add_within binary32 (u ⊗ f32 x) (v ⊗ f32 y) (2 ^ 92) (2 ^ 92) 1 (rep_up 2 92 (lit≤ tt) (lit≤ tt)) (times u x X hu) (times v y Y hv) in
      within_finite (u ⊗ f32 x ⊕ v ⊗ f32 y ⊕ t) (2 ^ 94) 1
      (add_within binary32 (u ⊗ f32 x ⊕ v ⊗ f32 y) t (2 ^ 93) (2 ^ 93) 1 (rep_up 2 93 (lit≤ tt) (lit≤ tt)) two (within_more t (2 ^ 80) 1 (2 ^ 93) 1 (lit< tt) ht (lit≤ tt)))

  pub finite_x : (x y : ℕ) → x ≤ 4096 → y ≤ 4096 → T (finite (sx_of map x y))
  unfolding sx_of
  finite_x x y X Y = point map.m00 map.m01 map.m02 x y X Y s.m00_small s.m01_small s.m02_small

  pub finite_y : (x y : ℕ) → x ≤ 4096 → y ≤ 4096 → T (finite (sy_of map x y))
  unfolding sy_of
  finite_y x y X Y = point map.m10 map.m11 map.m12 x y X Y s.m10_small s.m11_small s.m12_small

-- an entry that passes the two tests
pub small_is : (v : Float) → T (le v (of_bits binary32 0x6780_0000)) → T (le (neg (of_bits binary32 0x6780_0000)) v) → Within v (2 ^ 80) 1
unfolding of_bits
small_is v h k = within_of_le v (of_bits binary32 0x6780_0000) (2 ^ 80) 1 (lit< tt) (refl, refl) h k
