-- The computed point of a pixel under a move by whole pixels: x + tx, y + ty, with nothing rounded; so which pixels are marked. Assumes nothing.
use Prim.Native.Nat.{ℕ, suc, ◌+◌, ◌-◌, ◌^◌, ◌≤◌, ◌<◌}
use mathlib.Core.Path.{◌≡◌, refl, sym, ap, ap₂, ◌∙◌, subst}
use mathlib.Core.Bool.{Bool, true, false, not, ◌&&◌, cond, true≢false}
use mathlib.Core.Logic.{inl, inr}
use native.Mathlib.Nat.{add-zero}
use native.Mathlib.Omega.{arith}
use borrow.Author.Tests.{ltb-true}
use lib.Dec.{T, ltb}
use lib.IntN.{ℤ, pos, negsuc, nat_abs, ◌+ℤ◌}
use lib.Signed.{le_z, lt_z}
use lib.Ieee.{Float, fin, binary32, neg, round, of_int, of_bits}
use lib.Ieee.Fits.{of_int-fits}
use lib.Ieee.Scale.{finite}
use Rattle.lists.specs.Premises.{InRange}
use Rattle.floats.specs.F32.{◌⊕◌, ◌⊗◌, f32, 0f, 1f}
use Rattle.floats.specs.Units.{sign_of}
use Rattle.floats.proofs.Exactly.{whole_is}
use Rattle.floats.proofs.Values.{value_finite, value_sign}
use Rattle.floats.proofs.Products.{times_comm, plus_comm}
use Rattle.floats.proofs.Zeros.{Zero, Kept, times_one, times_zero, plus_zero}
use Rattle.floats.proofs.Wholes.{add_int, zero_le_int, lt_int}
use Rattle.series.specs.Series.{cos_of, sin_of}
use Rattle.pose.specs.Pose.{affine_from_theta_tx_ty}
use Rattle.pose.specs.declared.Map.{Map}
use Rattle.pose.specs.declared.Pose.{Pose}
use Rattle.places.specs.Point.{sx_of, sy_of, inside, marked_at}
use Rattle.moves.specs.Moves.{IsWhole, WholeMove, whole_inside}

-- ---- the map of a pose that does not turn

minus_zero : neg 0f ≡ fin true 0 (pos 0)
unfolding neg of_bits
minus_zero = refl

zero_of : (t : Float) → IsWhole t (pos 0) → Zero t
unfolding of_int round
zero_of t (inl e) = (false, e)
zero_of t (inr p) = (true, p.0 ∙ minus_zero)

cos_zero : (s : Bool) → cos_of (fin s 0 (pos 0)) ≡ 1f
unfolding cos_of of_bits
cos_zero true = refl
cos_zero false = refl

sin_zero : (s : Bool) → sin_of (fin s 0 (pos 0)) ≡ fin s 0 (pos 0)
unfolding sin_of
sin_zero true = refl
sin_zero false = refl

record Still (map : Map) : Type 0 where
  m00 : map.m00 ≡ 1f
  m01 : Zero map.m01
  m10 : Zero map.m10
  m11 : map.m11 ≡ 1f

still : (p : Pose) → Zero p.theta → Still (affine_from_theta_tx_ty p)
unfolding affine_from_theta_tx_ty neg
still p (s, e) = record {
  m00 = ap cos_of e ∙ cos_zero s;
  m01 = (not s, ap neg (ap sin_of e ∙ sin_zero s));
  m10 = (s, ap sin_of e ∙ sin_zero s);
  m11 = ap cos_of e ∙ cos_zero s;
}

-- ---- a column or row x, without the shift: 1 times it, and nothing of the other

whole_finite : (x : ℕ) → x ≤ 2 ^ 24 → T (finite (f32 x))
whole_finite x h = value_finite (f32 x) false x 1 (whole_is x h)

plain : (x : ℕ) (z : Float) → x ≤ 2 ^ 24 → Zero z → f32 x ⊕ z ≡ f32 x
plain x z h q = by (plus_zero (f32 x) z (of_int-fits binary32 (pos x)) (whole_finite x h) q)
  where
    by : Kept (f32 x ⊕ z) (f32 x) → f32 x ⊕ z ≡ f32 x
    by (inl e) = e
    by (inr p) = absurd (true≢false (ap sign_of (sym (p.1 ∙ minus_zero)) ∙ value_sign (f32 x) false x 1 (whole_is x h)))

alone : (m z : Float) (x y : ℕ) → x ≤ 2 ^ 24 → y ≤ 2 ^ 24 → m ≡ 1f → Zero z → m ⊗ f32 x ⊕ z ⊗ f32 y ≡ f32 x
alone m z x y X Y e q =
    ap (λ (v : Float). v ⊕ z ⊗ f32 y) (ap (λ (v : Float). v ⊗ f32 x) e ∙ times_comm binary32 1f (f32 x) ∙ times_one (f32 x) (of_int-fits binary32 (pos x)) (whole_finite x X))
    ∙ plain x (z ⊗ f32 y) X (subst Zero (times_comm binary32 (f32 y) z) (times_zero (f32 y) z (whole_finite y Y) q))

-- ---- with the shift

moved : (x : ℕ) (t : Float) (n : ℤ) → x + nat_abs n ≤ 2 ^ 24 → IsWhole t n → f32 x ⊕ t ≡ of_int binary32 (pos x +ℤ n)
moved x t n h (inl e) = ap (λ (z : Float). f32 x ⊕ z) e ∙ add_int x n h
moved x t n h (inr p) =
    plain x t (omega arith) (true, p.0 ∙ minus_zero) ∙ ap f32 (sym (add-zero x)) ∙ ap (λ (z : ℤ). of_int binary32 (pos x +ℤ z)) (sym p.1)

-- the sum's size
pub size_sum : (x : ℕ) (n : ℤ) → nat_abs (pos x +ℤ n) ≤ x + nat_abs n
size_sum x (pos a) = omega arith
size_sum x (negsuc a) = by (ltb x (suc a)) refl
  where
    by : (t : Bool) → ltb x (suc a) ≡ t → nat_abs (cond t (negsuc (suc a - suc x)) (pos (x - suc a))) ≤ x + suc a
    by true e = omega (arith, ltb-true x (suc a) e)
    by false e = omega arith

module _ (p : Pose) (tx ty : ℤ) (m : WholeMove p tx ty) (x y : ℕ) (X : x < 4096) (Y : y < 4096) where
  abbrev map : Map
  map = affine_from_theta_tx_ty p

  pub point_x : sx_of map x y ≡ of_int binary32 (pos x +ℤ tx)
  unfolding sx_of affine_from_theta_tx_ty
  point_x =
      let s = still p (zero_of p.theta m.theta_is) in
      ap (λ (v : Float). v ⊕ p.tx) (alone map.m00 map.m01 x y (omega arith) (omega arith) s.m00 s.m01) ∙ moved x p.tx tx (omega (arith, m.tx_most)) m.tx_is

  pub point_y : sy_of map x y ≡ of_int binary32 (pos y +ℤ ty)
  unfolding sy_of affine_from_theta_tx_ty
  point_y =
      let s = still p (zero_of p.theta m.theta_is) in
      ap (λ (v : Float). v ⊕ p.ty) (plus_comm binary32 (map.m10 ⊗ f32 x) (map.m11 ⊗ f32 y) ∙ alone map.m11 map.m10 y x (omega arith) (omega arith) s.m11 s.m10)
      ∙ moved y p.ty ty (omega (arith, m.ty_most)) m.ty_is

  -- the marks are those of the whole numbers
  module _ (w h : ℕ) (r : InRange w h) where
    tests : inside w h (of_int binary32 (pos x +ℤ tx)) (of_int binary32 (pos y +ℤ ty)) ≡ (le_z (pos 0) (pos x +ℤ tx) && le_z (pos 0) (pos y +ℤ ty) && lt_z (pos x +ℤ tx) (pos (w - 1)) && lt_z (pos y +ℤ ty) (pos (h - 1)))
    unfolding inside
    tests =
        let A : nat_abs (pos x +ℤ tx) ≤ 2 ^ 24 = omega (arith, size_sum x tx, m.tx_most) in
        let B : nat_abs (pos y +ℤ ty) ≤ 2 ^ 24 = omega (arith, size_sum y ty, m.ty_most) in
        rw (zero_le_int (pos x +ℤ tx) A, zero_le_int (pos y +ℤ ty) B, lt_int (pos x +ℤ tx) (w - 1) A (omega (arith, r.w_most)), lt_int (pos y +ℤ ty) (h - 1) B (omega (arith, r.h_most)))

    -- however the statement writes the ends
    pub marked_is : marked_at map w h x y ≡ whole_inside w h (pos x +ℤ tx) (pos y +ℤ ty)
    unfolding marked_at
    marked_is = ap₂ (inside w h) point_x point_y ∙ tests ∙ ap₂ (λ (i j : ℕ). le_z (pos 0) (pos x +ℤ tx) && le_z (pos 0) (pos y +ℤ ty) && lt_z (pos x +ℤ tx) (pos i) && lt_z (pos y +ℤ ty) (pos j)) (omega arith) (omega arith)
