-- Only marked pixels of j0 and of the centred images count: where those agree, a pass ends the same. Assumes nothing.
use Rattle.std.specs.Prelude.{None, Some, Option}
use Prim.Native.Nat.{ℕ}
use mathlib.Core.Path.{◌≡◌, refl, ap, ◌∙◌}
use mathlib.Core.List.{List}
use lib.Ieee.{Float}
use Rattle.stats.specs.Stats.{AgreeAt}
use Rattle.stats.specs.declared.Stats.{Stats}
use Rattle.inverse.specs.Inverse.{inverse_of}
use Rattle.inverse.specs.declared.Matrix3.{Matrix3}
use Rattle.pose.specs.declared.Pose.{Pose}
use Rattle.sums.specs.Sums.{proj_of, hessian_of, error_of}
use Rattle.sums.proofs.Agree.{proj_agree, hessian_agree, error_agree}
use Rattle.solve.specs.Solve.{update_of, solve_of}

module _ (marks : List ℕ) (n : ℕ) (p : Pose) (j0 j0' j1 j2 tz tz' iz iz' : List Float) (s : Stats) (rho : Float) (same_j0 : AgreeAt marks n j0 j0') (same_tz : AgreeAt marks n tz tz') (same_iz : AgreeAt marks n iz iz') where
  image_proj : proj_of marks n j0 j1 j2 iz ≡ proj_of marks n j0' j1 j2 iz'
  image_proj = proj_agree marks n j0 j0' j1 j2 same_j0 iz iz' same_iz

  template_proj : proj_of marks n j0 j1 j2 tz ≡ proj_of marks n j0' j1 j2 tz'
  template_proj = proj_agree marks n j0 j0' j1 j2 same_j0 tz tz' same_tz

  error_proj : (l : Float) → proj_of marks n j0 j1 j2 (error_of n l tz iz) ≡ proj_of marks n j0' j1 j2 (error_of n l tz' iz')
  error_proj l = proj_agree marks n j0 j0' j1 j2 same_j0 _ _ (error_agree marks n l tz tz' iz iz' same_tz same_iz)

  update_agree : (r : Option Matrix3) → update_of marks n p j0 j1 j2 tz iz s rho r ≡ update_of marks n p j0' j1 j2 tz' iz' s rho r
  unfolding update_of
  update_agree None = refl
  update_agree (Some h) = rw (image_proj, template_proj, error_proj)

  -- THE LAW
  pub solve_agree : solve_of marks n p j0 j1 j2 tz iz s rho ≡ solve_of marks n p j0' j1 j2 tz' iz' s rho
  unfolding solve_of
  solve_agree = update_agree (inverse_of (hessian_of marks n j0 j1 j2)) ∙ ap (λ (h : Matrix3). update_of marks n p j0' j1 j2 tz' iz' s rho (inverse_of h)) (hessian_agree marks n j0 j0' j1 j2 same_j0)
