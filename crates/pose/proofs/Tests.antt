-- The test of a pose's numbers: from its four parts, and back to what each says. Assumes nothing.
use mathlib.Core.Path.{◌≡◌, refl, sym, subst}
use mathlib.Core.Bool.{Bool, true, false, ◌&&◌}
use lib.Dec.{T, lit<}
use lib.Ieee.{Float, neg, le, of_bits}
use lib.Ieee.Bits.{is_true}
use lib.Ieee.Exact.{HasValue}
use lib.Ieee.Fits.{and_l, and_r}
use lib.Ieee.Scale.{finite}
use Rattle.floats.specs.Bound.{Within}
use Rattle.floats.specs.F32.{2f}
use Rattle.floats.proofs.Signs.{within_of_le}
use Rattle.pose.specs.Pose.{is_pose}

-- ---- four tests in a row

pub last_of : (a b c d : Bool) → a ≡ true → b ≡ true → c ≡ true → d ≡ (a && b && c && d)
last_of a b c d p q r = rw (p, q, r)

pub third_fails : (a b c d : Bool) → a ≡ true → b ≡ true → c ≡ false → false ≡ (a && b && c && d)
third_fails a b c d p q r = rw (p, q, r)

pub second_fails : (a b c d : Bool) → a ≡ true → b ≡ false → false ≡ (a && b && c && d)
second_fails a b c d p q = rw (p, q)

pub first_fails : (a b c d : Bool) → a ≡ false → false ≡ (a && b && c && d)
first_fails a b c d p = rw p

-- ---- what a pose's numbers are

two_is : HasValue 2f false 2 1
unfolding of_bits
two_is = (refl, refl)

module _ (theta tx ty : Float) (holds : is_pose theta tx ty ≡ true) where
  all_parts : T (le (neg 2f) theta && le theta 2f && finite tx && finite ty)
  unfolding is_pose
  all_parts = subst T (sym holds) tt

  turns : T (le (neg 2f) theta && le theta 2f)
  turns = and_l (le (neg 2f) theta && le theta 2f) (finite tx) (and_l (le (neg 2f) theta && le theta 2f && finite tx) (finite ty) all_parts)

  pub pose_theta : Within theta 2 1
  pose_theta = within_of_le theta 2f 2 1 (lit< tt) two_is (and_r (le (neg 2f) theta) (le theta 2f) turns) (and_l (le (neg 2f) theta) (le theta 2f) turns)

  pub pose_tx : T (finite tx)
  pose_tx = and_r (le (neg 2f) theta && le theta 2f) (finite tx) (and_l (le (neg 2f) theta && le theta 2f && finite tx) (finite ty) all_parts)

  pub pose_ty : T (finite ty)
  pose_ty = and_r (le (neg 2f) theta && le theta 2f && finite tx) (finite ty) all_parts

  -- theta is in range, whatever the shift is
  pub pose_shifted : (x y : Float) → T (finite x) → T (finite y) → is_pose theta x y ≡ true
  unfolding is_pose
  pose_shifted x y f g = rw (is_true (le (neg 2f) theta && le theta 2f) turns, is_true (finite x) f, is_true (finite y) g)
