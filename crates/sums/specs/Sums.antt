-- The sums over the marked pixels in the second half of document 000's pass. Definitions only.
-- Every sum is `product_of`, the one fold over the marks: h[r][c] is that of j[r] and j[c], image_proj[r] that of j[r] and image_zm, and so on.
use Rattle.std.specs.Prelude.{ℕ, ◌+◌, ◌*◌, List, get_or, Float}
use Rattle.std.specs.Float.{nan}
use Rattle.std.specs.Float.Ieee.{neg}
use Rattle.lists.specs.Lists.{tab, grid}
use Rattle.floats.specs.F32.{◌⊕◌, ◌⊖◌, ◌⊗◌, f32}
use Rattle.series.specs.Series.{cos_of, sin_of}
use Rattle.stats.specs.Stats.{product_of}
use Rattle.inverse.specs.declared.Vector3.{Vector3}
use Rattle.inverse.specs.declared.Matrix3.{Matrix3}

-- j0 = gxw * hat_x + gyw * hat_y, with hat_x = -(x * st) - (y * ct) and hat_y = (x * ct) - (y * st)
unfoldable pub steep_of : ℕ → ℕ → Float → List Float → List Float → List Float
steep_of w h theta gxw gyw =
    let ct = cos_of theta in
    let st = sin_of theta in
    grid w h (λ x y.
    get_or gxw (y * w + x) nan ⊗ (neg (f32 x ⊗ st) ⊖ f32 y ⊗ ct) ⊕ get_or gyw (y * w + x) nan ⊗ (f32 x ⊗ ct ⊖ f32 y ⊗ st))

-- the three sums of j0, j1, j2 with an image
unfoldable pub proj_of : List ℕ → ℕ → List Float → List Float → List Float → List Float → Vector3
proj_of marks n j0 j1 j2 xs = (product_of marks n j0 xs, product_of marks n j1 xs, product_of marks n j2 xs)

-- h[r][c], the sum of j[r] * j[c]
unfoldable pub hessian_of : List ℕ → ℕ → List Float → List Float → List Float → Matrix3
hessian_of marks n j0 j1 j2 = record {
  m00 = product_of marks n j0 j0;
  m01 = product_of marks n j0 j1;
  m02 = product_of marks n j0 j2;
  m10 = product_of marks n j1 j0;
  m11 = product_of marks n j1 j1;
  m12 = product_of marks n j1 j2;
  m20 = product_of marks n j2 j0;
  m21 = product_of marks n j2 j1;
  m22 = product_of marks n j2 j2;
}

-- e = lambda * template_zm - image_zm
unfoldable pub error_of : ℕ → Float → List Float → List Float → List Float
error_of n lambda template_zm image_zm = tab n (λ i. lambda ⊗ get_or template_zm i nan ⊖ get_or image_zm i nan)
