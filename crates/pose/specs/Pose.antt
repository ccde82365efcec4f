-- The matrix of a pose and of an answer: document 000's affine_from_theta_tx_ty and identity3; the pose in original pixels. Definitions only.
use Rattle.std.specs.Prelude.{ℕ, Bool, ◌&&◌, Float, Result, Ok, Err}
use Rattle.std.specs.Float.Ieee.{neg, le}
use Rattle.std.specs.Float.Ieee.Scale.{finite}
use Rattle.lists.specs.Marked.{pick}
use Rattle.floats.specs.F32.{◌⊘◌, 0f, 1f, 2f}
use Rattle.series.specs.Series.{cos_of, sin_of}
use Rattle.pose.specs.declared.Map.{Map}
use Rattle.pose.specs.declared.Pose.{Pose}
use Rattle.pose.specs.declared.Posed.{Posed}
use Rattle.refusals.specs.Refusals.{number}
use Rattle.refusals.specs.declared.Refusal.{Refusal}
use Rattle.refusals.specs.declared.Refusal.TheVariants.{PoseLost}
use Rattle.inverse.specs.declared.Matrix3.{Matrix3}

-- affine_from_theta_tx_ty(theta, tx, ty) without its third row, by which the warp goes: [ct, -st, tx], [st, ct, ty]
unfoldable pub affine_from_theta_tx_ty : Pose → Map
affine_from_theta_tx_ty p = let ct = cos_of p.theta in let st = sin_of p.theta in record { m00 = ct; m01 = neg st; m02 = p.tx; m10 = st; m11 = ct; m12 = p.ty }

-- how a call ends: a pose, or a refusal
abbrev pub Answer : Type 0
Answer = Result Posed Refusal

-- the pose in original pixels: tx over tw / w, ty over th / h; 10 where one of them is not finite then
unfoldable pub unscaled_of : Float → Float → Pose → Float → Answer
unscaled_of sx sy p rho =
    let tx = p.tx ⊘ sx in
    let ty = p.ty ⊘ sy in
    pick (finite tx) (pick (finite ty) (Ok (record { theta = p.theta; tx = tx; ty = ty; rho = rho })) (Err PoseLost)) (Err PoseLost)

-- numbers of a pose: theta in -2..2, tx and ty finite
unfoldable pub is_pose : Float → Float → Float → Bool
is_pose theta tx ty = le (neg 2f) theta && le theta 2f && finite tx && finite ty

-- identity3()
unfoldable pub identity3 : Matrix3
identity3 = record { m00 = 1f; m01 = 0f; m02 = 0f; m10 = 0f; m11 = 1f; m12 = 0f; m20 = 0f; m21 = 0f; m22 = 1f }

-- affine_from_theta_tx_ty(theta, tx, ty), its third row [0, 0, 1]
unfoldable pub affine_matrix : Float → Float → Float → Matrix3
affine_matrix theta tx ty =
    let m = affine_from_theta_tx_ty (record { theta = theta; tx = tx; ty = ty }) in
    record { m00 = m.m00; m01 = m.m01; m02 = m.m02; m10 = m.m10; m11 = m.m11; m12 = m.m12; m20 = 0f; m21 = 0f; m22 = 1f }

-- the matrix of a pose: identity3 for a theta, tx or ty that is not finite, and for a theta outside -2..2
unfoldable pub posed_matrix : Float → Float → Float → Matrix3
posed_matrix theta tx ty = pick (is_pose theta tx ty) (affine_matrix theta tx ty) identity3

-- the matrix of an answer: identity3 for a refusal
unfoldable pub matrix_of : Answer → Matrix3
unfolding identity3 posed_matrix
matrix_of (Err r) = identity3
matrix_of (Ok p) = posed_matrix p.theta p.tx p.ty

-- document 01's number and values of an answer
pub record Told : Type 0 where
  pub number : ℕ
  pub theta : Float
  pub tx : Float
  pub ty : Float
  pub rho : Float

-- by its cases: a pose has number 0 and its four values; a refusal has its number, and no values: zeros stand for them
unfoldable pub told_of : Answer → Told
told_of (Err r) = record { number = number r; theta = 0f; tx = 0f; ty = 0f; rho = 0f }
told_of (Ok p) = record { number = 0; theta = p.theta; tx = p.tx; ty = p.ty; rho = p.rho }

-- its number
abbrev pub number_of : Answer → ℕ
number_of a = (told_of a).number
