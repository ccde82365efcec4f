-- The entries of a pose's matrix: how large they are, and that they are finite. Assumes nothing.
use Rattle.std.proofs.Common.{◌≡◌, ℕ, ◌-◌, ◌*◌, ◌^◌, ◌≤◌, Bool, true, false, T, sym, refl, subst, inl, inr, mul-le-mul, arith, lit<, lit≤}
use native.Mathlib.Nat.{div-le_of_le-mul}
use lib.IntN.{sub_ℕ}
use lib.Ieee.{Float, nan, inf, fin, binary32, down, round, of_bits}
use lib.Ieee.Scale.{finite}
use Rattle.lists.proofs.Cases.{pick_true, pick_false}
use Rattle.floats.specs.Bound.{Within}
use Rattle.floats.proofs.Patterns.{lt_or_le}
use Rattle.floats.proofs.Within.{within_neg, round_within, mul_within, rep_down}
use Rattle.series.specs.Recurrence.{quotient_of, steps_of}
use Rattle.series.specs.Series.{divisor_of, z_of, over30_of, cos_of, sin_of}
use Rattle.series.specs.declared.Series.TheVariants.{Cosine, Sine}
use Rattle.series.proofs.Recurrence.{steps_le}
use Rattle.series.proofs.Signed.{not_below, below}
use Rattle.pose.specs.Pose.{is_pose, affine_from_theta_tx_ty, affine_matrix, identity3, posed_matrix}
use Rattle.pose.proofs.Tests.{pose_theta}
use Rattle.inverse.specs.declared.Matrix3.{Matrix3}

-- ---- the cosine is at most 1 in size, the sine at most 2

z_le : (theta : Float) → Within theta 2 1 → z_of theta ≤ 2 ^ 32
unfolding z_of
z_le nan h = absurd h
z_le (inf s) h = absurd h
z_le (fin s m e) h = div-le_of_le-mul (down e * down e) (omega (arith, mul-le-mul h h))

-- U/2^30 of a U from -2^30 to 2^30
over30_within : (w : ℕ) → w ≤ 2 ^ 31 → Within (over30_of (sub_ℕ (2 ^ 30) w)) 1 1
over30_within w h = elim (lt_or_le (2 ^ 30) w) [
  | inl l ↦ subst (λ (x : Float). Within x 1 1) (sym (below w l)) (round_within binary32 true (w - 2 ^ 30) (2 ^ 30) 1 1 (lit< tt) (rep_down 1 0 (lit≤ tt) (lit≤ tt)) (omega (arith, h)))
  | inr l ↦ subst (λ (x : Float). Within x 1 1) (sym (not_below w l)) (round_within binary32 false (2 ^ 30 - w) (2 ^ 30) 1 1 (lit< tt) (rep_down 1 0 (lit≤ tt) (lit≤ tt)) (omega arith))
]

pub cosine_within : (theta : Float) → Within theta 2 1 → Within (cos_of theta) 1 1
unfolding cos_of
cosine_within theta h =
    let u = steps_of (divisor_of Cosine) (z_of theta) 8 7 in
    over30_within (quotient_of (z_of theta) (divisor_of Cosine 1) u) (div-le_of_le-mul (2 ^ 30 * divisor_of Cosine 1) (omega (arith, mul-le-mul (z_le theta h) (steps_le (divisor_of Cosine) (z_of theta) 8 7))))

pub sine_within : (theta : Float) → Within theta 2 1 → Within (sin_of theta) 2 1
unfolding sin_of
sine_within theta h =
    let w = steps_of (divisor_of Sine) (z_of theta) 8 8 in
    mul_within binary32 (round binary32 false w (2 ^ 30)) theta 1 1 2 1 2 1 (lit< tt) (lit< tt) (rep_down 2 0 (lit≤ tt) (lit≤ tt)) (lit≤ tt)
    (round_within binary32 false w (2 ^ 30) 1 1 (lit< tt) (rep_down 1 0 (lit≤ tt) (lit≤ tt)) (omega (arith, steps_le (divisor_of Sine) (z_of theta) 8 8)))
    h

-- ---- the rows of a matrix

-- what `middle::motion` asks of a row, of both rows
pub record Rows (m : Matrix3) : Type 0 where
  pub m00 : Within m.m00 1 1
  pub m01 : Within m.m01 2 1
  pub m02 : T (finite m.m02)
  pub m10 : Within m.m10 2 1
  pub m11 : Within m.m11 1 1
  pub m12 : T (finite m.m12)

rows_identity : Rows identity3
unfolding identity3 of_bits
rows_identity = record { m00 = lit≤ tt; m01 = lit≤ tt; m02 = tt; m10 = lit≤ tt; m11 = lit≤ tt; m12 = tt }

pub rows_turned : (theta tx ty : Float) → Within theta 2 1 → T (finite tx) → T (finite ty) → Rows (affine_matrix theta tx ty)
unfolding affine_matrix affine_from_theta_tx_ty
rows_turned theta tx ty h x y = record {
  m00 = cosine_within theta h;
  m01 = within_neg (sin_of theta) 2 1 (sine_within theta h);
  m02 = x;
  m10 = sine_within theta h;
  m11 = cosine_within theta h;
  m12 = y;
}

pub rows_posed : (theta tx ty : Float) → T (finite tx) → T (finite ty) → Rows (posed_matrix theta tx ty)
unfolding posed_matrix
rows_posed theta tx ty x y = go (is_pose theta tx ty) refl
  where
    go : (b : Bool) → is_pose theta tx ty ≡ b → Rows (posed_matrix theta tx ty)
    go true e = subst Rows (sym (pick_true _ _ _ e)) (rows_turned theta tx ty (pose_theta theta tx ty e) x y)
    go false e = subst Rows (sym (pick_false _ _ _ e)) rows_identity
