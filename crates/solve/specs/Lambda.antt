-- Lambda of document 000's pass, by two products, for every model of the passes. Definitions only.
use Rattle.std.specs.Prelude.{Float, Some, None, Option}
use Rattle.std.specs.Float.Ieee.{le}
use Rattle.std.specs.Float.Ieee.Scale.{finite}
use Rattle.lists.specs.Marked.{pick}
use Rattle.floats.specs.F32.{◌⊖◌, ◌⊗◌, ◌⊘◌, 0f}
use Rattle.stats.specs.declared.Stats.{Stats}

-- lambda_n, lambda_d and lambda, by the products of image_proj and of template_proj with image_proj_hessian; none where lambda_d <= 0 or is not finite, or
-- lambda is not finite
unfoldable pub lambda_of : Stats → Float → Float → Option Float
lambda_of s image template =
    let lambda_n = s.img_norm ⊗ s.img_norm ⊖ image in
    let lambda_d = s.corr ⊖ template in
    let lambda = lambda_n ⊘ lambda_d in
    pick (le lambda_d 0f) None (pick (finite lambda_d) (pick (finite lambda) (Some lambda) None) None)
