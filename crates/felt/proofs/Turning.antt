-- Who only turns the grip feels no push. Assumes nothing.
use Rattle.std.specs.Prelude.{Ok}
use mathlib.Core.Path.{◌≡◌, refl, ◌∙◌}
use mathlib.Core.Bool.{true, false}
use Prim.Native.Nat.{ℕ, ◌+◌, ◌-◌, ◌^◌, ◌≤◌}
use native.Mathlib.Omega.{arith}
use lib.Dec.{T}
use lib.IntN.{ℤ, pos, negsuc, sub_ℕ}
use lib.Ieee.{Float, binary32, round, neg, fits}
use lib.Ieee.Fits.{round-fits, mul-fits, neg-fits}
use lib.Ieee.Scale.{finite}
use Rattle.lists.specs.Premises.{is_side}
use Rattle.floats.specs.Bound.{Within}
use Rattle.floats.specs.F32.{0f}
use Rattle.floats.proofs.Within.{within_neg}
use Rattle.series.specs.Recurrence.{quotient_of, steps_of}
use Rattle.series.specs.Series.{divisor_of, z_of, over30_of, cos_of, sin_of}
use Rattle.series.specs.declared.Series.TheVariants.{Cosine, Sine}
use Rattle.pose.specs.Pose.{is_pose, affine_from_theta_tx_ty, affine_matrix}
use Rattle.pose.proofs.Tests.{pose_theta, pose_shifted}
use Rattle.middle.specs.Motion.{motion_of}
use Rattle.felt.specs.Still.{keeping_of}
use Rattle.felt.proofs.Posed.{by_entries}
use Rattle.felt.proofs.Still.{keeping_finite, kept}
use Rattle.driver.specs.Pins.{pin_of, posed_of, pins_of}
use Rattle.felt.specs.Felt.{TurnInPlace}
use Rattle.driver.proofs.Entries.{cosine_within, sine_within}
use Rattle.driver.proofs.Sides.{side_bounds, of_pose}

-- ---- cosine and sine are f32

over30_fits : (v : ℤ) → T (fits binary32 (over30_of v))
unfolding over30_of
over30_fits (pos n) = round-fits binary32 false n (2 ^ 30)
over30_fits (negsuc n) = round-fits binary32 true (n + 1) (2 ^ 30)

cosine_fits : (theta : Float) → T (fits binary32 (cos_of theta))
unfolding cos_of
cosine_fits theta = over30_fits (sub_ℕ (2 ^ 30) (quotient_of (z_of theta) (divisor_of Cosine 1) (steps_of (divisor_of Cosine) (z_of theta) 8 7)))

sine_fits : (theta : Float) → T (fits binary32 (sin_of theta))
unfolding sin_of
sine_fits theta = mul-fits binary32 (round binary32 false (steps_of (divisor_of Sine) (z_of theta) 8 8) (2 ^ 30)) theta

-- ---- THE LAW

module _ (theta rho : Float) (w h : ℕ) (P : is_pose theta 0f 0f ≡ true) (W : is_side w ≡ true) (H : is_side h ≡ true) where
  turn : Within theta 2 1
  turn = pose_theta theta 0f 0f P

  a_le : w - 1 ≤ 4095
  a_le = (side_bounds w W).1

  b_le : h - 1 ≤ 4095
  b_le = (side_bounds h H).1

  minus : Float
  minus = neg (sin_of theta)

  minus_fits : T (fits binary32 minus)
  unfolding minus
  minus_fits = neg-fits binary32 (sin_of theta) (sine_fits theta)

  minus_within : Within minus 2 1
  unfolding minus
  minus_within = within_neg (sin_of theta) 2 1 (sine_within theta turn)

  tx : Float
  tx = keeping_of (cos_of theta) (w - 1) minus (h - 1)

  ty : Float
  ty = keeping_of (cos_of theta) (h - 1) (sin_of theta) (w - 1)

  tx_finite : T (finite tx)
  unfolding tx
  tx_finite = keeping_finite (cos_of theta) (w - 1) minus (h - 1) (cosine_fits theta) minus_fits (cosine_within theta turn) minus_within a_le b_le

  ty_finite : T (finite ty)
  unfolding ty
  ty_finite = keeping_finite (cos_of theta) (h - 1) (sin_of theta) (w - 1) (cosine_fits theta) (sine_fits theta) (cosine_within theta turn) (sine_within theta turn) b_le a_le

  across : motion_of (cos_of theta) (w - 1) minus (h - 1) tx ≡ pos 0
  unfolding tx
  across = kept (cos_of theta) (w - 1) minus (h - 1) (cosine_fits theta) minus_fits (cosine_within theta turn) minus_within (omega (arith, a_le)) (omega (arith, b_le))

  along : motion_of (cos_of theta) (h - 1) (sin_of theta) (w - 1) ty ≡ pos 0
  unfolding ty
  along = kept (cos_of theta) (h - 1) (sin_of theta) (w - 1) (cosine_fits theta) (sine_fits theta) (cosine_within theta turn) (sine_within theta turn) (omega (arith, b_le)) (omega (arith, a_le))

  still : posed_of theta tx ty (w - 1) (h - 1) ≡ record { dx = pos 0; dy = pos 0; turn = pin_of 8192 theta }
  unfolding minus
  still = by_entries theta tx ty (w - 1) (h - 1) (pose_shifted theta 0f 0f P tx ty tx_finite ty_finite) ∙ rw (across, along)

  in_place : pins_of (Ok (record { theta = theta; tx = tx; ty = ty; rho = rho })) w h ≡ record { dx = pos 0; dy = pos 0; turn = pin_of 8192 theta }
  in_place = of_pose (Ok (record { theta = theta; tx = tx; ty = ty; rho = rho })) (record { theta = theta; tx = tx; ty = ty; rho = rho }) w h refl W H ∙ still

pub turn_in_place : TurnInPlace
unfolding tx ty minus affine_matrix affine_from_theta_tx_ty
turn_in_place theta rho w h P W H = in_place theta rho w h P W H
