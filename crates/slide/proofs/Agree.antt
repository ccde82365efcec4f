-- Only marked pixels of the centred images count: where those agree, a pass of the rail ends the same. Assumes nothing.
use Rattle.std.specs.Prelude.{None, Some, Option}
use Prim.Native.Nat.{ℕ}
use mathlib.Core.Path.{◌≡◌, refl}
use mathlib.Core.List.{List}
use lib.Ieee.{Float}
use Rattle.stats.specs.Stats.{AgreeAt}
use Rattle.stats.specs.declared.Stats.{Stats}
use Rattle.pose.specs.declared.Pose.{Pose}
use Rattle.sums.specs.Sums.{error_of}
use Rattle.sums.proofs.Agree.{product_agree, error_agree}
use Rattle.inverse2.specs.Inverse.{inverse2_of}
use Rattle.sums2.specs.Sums.{proj2_of, hessian2_of}
use Rattle.slide.specs.Slide.{shift_of, slide_of}
use Rattle.inverse2.specs.declared.Matrix2.{Matrix2}

module _ (marks : List ℕ) (n : ℕ) (p : Pose) (gx gy tz tz' iz iz' : List Float) (s : Stats) (rho : Float) (same_tz : AgreeAt marks n tz tz') (same_iz : AgreeAt marks n iz iz') where
  proj_agree : (xs ys : List Float) → AgreeAt marks n xs ys → proj2_of marks n gx gy xs ≡ proj2_of marks n gx gy ys
  unfolding proj2_of
  proj_agree xs ys h =
      let a = product_agree marks n gx gx xs ys (λ i l m. refl) h in
      let b = product_agree marks n gy gy xs ys (λ i l m. refl) h in
      λ k. (a k, b k)

  error_proj : (l : Float) → proj2_of marks n gx gy (error_of n l tz iz) ≡ proj2_of marks n gx gy (error_of n l tz' iz')
  error_proj l = proj_agree _ _ (error_agree marks n l tz tz' iz iz' same_tz same_iz)

  shift_agree : (r : Option Matrix2) → shift_of marks n p gx gy tz iz s rho r ≡ shift_of marks n p gx gy tz' iz' s rho r
  unfolding shift_of
  shift_agree None = refl
  shift_agree (Some h) = simp (proj_agree iz iz' same_iz, proj_agree tz tz' same_tz, error_proj)

  -- THE LAW
  pub slide_agree : slide_of marks n p gx gy tz iz s rho ≡ slide_of marks n p gx gy tz' iz' s rho
  unfolding slide_of
  slide_agree = shift_agree (inverse2_of (hessian2_of marks n gx gy))
