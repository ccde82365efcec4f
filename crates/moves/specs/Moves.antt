-- A move by whole pixels is exact: theta is 0, tx and ty are whole numbers. A statement about the warp's definitions. Definitions only.
use Rattle.std.specs.Prelude.{ℕ, ◌+◌, ◌-◌, ◌*◌, ◌≤◌, ◌<◌, ◌≡◌, Bool, true, ◌&&◌, ◌⊎◌, List, T, ℤ, pos, nat_abs, ◌+ℤ◌, get_or, Float}
use Rattle.std.specs.Int.Signed.{le_z, lt_z}
use Rattle.std.specs.Float.{binary32, nan}
use Rattle.std.specs.Float.Ieee.{neg, eq, fits, of_int}
use Rattle.std.specs.Float.Ieee.Scale.{finite}
use Rattle.lists.specs.Marked.{pick}
use Rattle.lists.specs.Premises.{InRange}
use Rattle.marks.specs.Marks.{on}
use Rattle.floats.specs.F32.{0f}
use Rattle.pose.specs.Pose.{affine_from_theta_tx_ty}
use Rattle.pose.specs.declared.Pose.{Pose}
use Rattle.places.specs.Point.{marks_of}
use Rattle.warp.specs.Warp.{warp_of}

-- ---- the move

-- t is the f32 of the whole number n; of 0 it is either zero
abbrev pub IsWhole : Float → ℤ → Type 0
IsWhole t n = (t ≡ of_int binary32 n) ⊎ ((t ≡ neg 0f) × (n ≡ pos 0))

-- a pose that does not turn and moves by tx columns and ty rows, up to 4,096 either way
pub record WholeMove (p : Pose) (tx ty : ℤ) : Type 0 where
  pub theta_is : IsWhole p.theta (pos 0)
  pub tx_is : IsWhole p.tx tx
  pub ty_is : IsWhole p.ty ty
  pub tx_most : nat_abs tx ≤ 4096
  pub ty_most : nat_abs ty ≤ 4096

-- ---- what comes of it

-- the first n numbers of xs are there; each is an f32, and neither infinite nor a NaN
pub record AllFinite (xs : List Float) (n : ℕ) : Type 0 where
  pub are_f32 : (i : ℕ) → i < n → T (fits binary32 (get_or xs i nan))
  pub are_finite : (i : ℕ) → i < n → T (finite (get_or xs i nan))

-- x and y are the same number by IEEE 754's equality, to which both zeros are one. Their bits are the same too, but that x may be +0 where y is -0
pub record SameNumber (x y : Float) : Type 0 where
  pub equal : eq x y ≡ true
  pub but_for_zero : (x ≡ y) ⊎ ((x ≡ 0f) × (y ≡ neg 0f))

-- 0 <= x, 0 <= y, x < w - 1 and y < h - 1, of whole numbers
abbrev pub whole_inside : ℕ → ℕ → ℤ → ℤ → Bool
whole_inside w h x y = le_z (pos 0) x && le_z (pos 0) y && lt_z x (pos (w - 1)) && lt_z y (pos (h - 1))

-- `out` and `marks` are `src` moved: marked are exactly the pixels whose x + tx, y + ty lies inside, and each marked one holds the source's number from there
pub record MovedBy (tx ty : ℤ) (w h : ℕ) (src out : List Float) (marks : List ℕ) : Type 0 where
  pub marked : (x y : ℕ) → x < w → y < h → get_or marks (y * w + x) 0 ≡ pick (whole_inside w h (pos x +ℤ tx) (pos y +ℤ ty)) 1 0
  pub exact : (x y X Y : ℕ) → x < w → y < h → on marks (y * w + x) ≡ true → pos x +ℤ tx ≡ pos X → pos y +ℤ ty ≡ pos Y → SameNumber (get_or out (y * w + x) nan) (get_or src (Y * w + X) nan)

-- THE STATEMENT, over any source of finite numbers
abbrev pub MoveIsExact : Type 0
MoveIsExact =
    (w h : ℕ) (src : List Float) (p : Pose) (tx ty : ℤ) → InRange w h → AllFinite src (w * h) → WholeMove p tx ty → let map = affine_from_theta_tx_ty p in MovedBy tx ty w h src (warp_of src map w h) (marks_of map w h)
