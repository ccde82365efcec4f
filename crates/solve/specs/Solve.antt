-- The second half of document 000's pass: the inverse, lambda and the update, from the sums over the marked pixels. Definitions only.
use Rattle.std.specs.Prelude.{ℕ, List, Float, None, Some, Option, Ok, Err, Result}
use Rattle.std.specs.Float.Ieee.{le}
use Rattle.std.specs.Float.Ieee.Scale.{finite}
use Rattle.lists.specs.Marked.{pick}
use Rattle.floats.specs.F32.{◌⊕◌, ◌⊖◌, ◌⊗◌, ◌⊘◌, 0f}
use Rattle.stats.specs.declared.Stats.{Stats}
use Rattle.inverse.specs.Inverse.{inverse_of, times_of, dot_of}
use Rattle.inverse.specs.declared.Vector3.{Vector3}
use Rattle.pose.specs.Pose.{is_pose}
use Rattle.pose.specs.declared.Pose.{Pose}
use Rattle.sums.specs.Sums.{proj_of, hessian_of, error_of}
use Rattle.solve.specs.declared.Step.TheVariants.{Move}
use Rattle.inverse.specs.declared.Matrix3.{Matrix3}
use Rattle.refusals.specs.declared.Refusal.TheVariants.{PoseLost, NoInverse, NoStep}
use Rattle.solve.specs.declared.Step.{Step}
use Rattle.refusals.specs.declared.Refusal.{Refusal}

-- how a pass ends: with a step, or refused
abbrev pub Ended : Type 0
Ended = Result Step Refusal

-- theta += delta[0], tx += delta[1], ty += delta[2]; 10 where theta leaves -2..2, or tx or ty is not finite
unfoldable pub moved_of : Pose → Vector3 → Float → Ended
moved_of p delta rho =
    let theta = p.theta ⊕ delta.0 in
    let tx = p.tx ⊕ delta.1 in
    let ty = p.ty ⊕ delta.2 in
    pick (is_pose theta tx ty) (Ok (Move (record { theta = theta; tx = tx; ty = ty }) rho)) (Err PoseLost)

-- lambda_n, lambda_d and lambda; 9 where lambda_d <= 0 or is not finite, or lambda is not finite
module _ (marks : List ℕ) (n : ℕ) (p : Pose) (j0 j1 j2 template_zm image_zm : List Float) (s : Stats) (rho : Float) where
  unfoldable pub update_of : Option Matrix3 → Ended
  update_of None = Err NoInverse
  update_of (Some h_inv) =
      let image_proj = proj_of marks n j0 j1 j2 image_zm in
      let template_proj = proj_of marks n j0 j1 j2 template_zm in
      let image_proj_hessian = times_of h_inv image_proj in
      let lambda_n = s.img_norm ⊗ s.img_norm ⊖ dot_of image_proj image_proj_hessian in
      let lambda_d = s.corr ⊖ dot_of template_proj image_proj_hessian in
      let lambda = lambda_n ⊘ lambda_d in
      let error_proj = proj_of marks n j0 j1 j2 (error_of n lambda template_zm image_zm) in
      pick (le lambda_d 0f) (Err NoStep)
      (pick (finite lambda_d) (pick (finite lambda) (moved_of p (times_of h_inv error_proj) rho) (Err NoStep)) (Err NoStep))

  unfoldable pub solve_of : Ended
  solve_of = update_of (inverse_of (hessian_of marks n j0 j1 j2))
