-- The second half of a pass of the rail (document 02, request 4): document 000's with the entries of theta struck out, under its names. Definitions only.
use Rattle.std.specs.Prelude.{ℕ, List, Float, None, Some, Option, Ok, Err}
use Rattle.std.specs.Float.Ieee.Scale.{finite}
use Rattle.lists.specs.Marked.{pick}
use Rattle.floats.specs.F32.{◌⊕◌, 0f}
use Rattle.stats.specs.declared.Stats.{Stats}
use Rattle.pose.specs.declared.Pose.{Pose}
use Rattle.sums.specs.Sums.{error_of}
use Rattle.solve.specs.Lambda.{lambda_of}
use Rattle.solve.specs.declared.Step.TheVariants.{Move}
use Rattle.inverse2.specs.Inverse.{inverse2_of, times2_of, dot2_of}
use Rattle.inverse2.specs.declared.Vector2.{Vector2}
use Rattle.sums2.specs.Sums.{proj2_of, hessian2_of}
use Rattle.inverse2.specs.declared.Matrix2.{Matrix2}
use Rattle.refusals.specs.declared.Refusal.TheVariants.{NoStep, PoseLost, NoInverse}
use Rattle.solve.specs.Solve.{Ended}

-- what follows lambda; 9 where there is none
unfoldable pub on_lambda : Option Float → (Float → Ended) → Ended
on_lambda (Some lambda) update = update lambda
on_lambda None update = Err NoStep

-- theta is 0, tx += delta[0], ty += delta[1]; 10 where tx or ty is not finite
unfoldable pub slid_of : Pose → Vector2 → Float → Ended
slid_of p delta rho =
    let tx = p.tx ⊕ delta.0 in
    let ty = p.ty ⊕ delta.1 in
    pick (finite tx) (pick (finite ty) (Ok (Move (record { theta = 0f; tx = tx; ty = ty }) rho)) (Err PoseLost)) (Err PoseLost)

-- 8 where h has no inverse, 9 where there is no lambda
module _ (marks : List ℕ) (n : ℕ) (p : Pose) (gxw gyw template_zm image_zm : List Float) (s : Stats) (rho : Float) where
  unfoldable pub shift_of : Option Matrix2 → Ended
  shift_of None = Err NoInverse
  shift_of (Some h_inv) =
      let image_proj = proj2_of marks n gxw gyw image_zm in
      let template_proj = proj2_of marks n gxw gyw template_zm in
      let image_proj_hessian = times2_of h_inv image_proj in
      on_lambda (lambda_of s (dot2_of image_proj image_proj_hessian) (dot2_of template_proj image_proj_hessian))
      (λ lambda. let error_proj = proj2_of marks n gxw gyw (error_of n lambda template_zm image_zm) in slid_of p (times2_of h_inv error_proj) rho)

  unfoldable pub slide_of : Ended
  slide_of = shift_of (inverse2_of (hessian2_of marks n gxw gyw))
