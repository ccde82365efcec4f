-- The sums over the marked pixels in the second half of a pass of the rail: document 000's with the entries of theta struck out (document 02, request 4).
-- j is gxw, gyw at a pixel. Every sum is `product_of`, the one fold over the marks. Definitions only.
use Rattle.std.specs.Prelude.{ℕ, List, Float}
use Rattle.stats.specs.Stats.{product_of}
use Rattle.inverse2.specs.declared.Vector2.{Vector2}
use Rattle.inverse2.specs.declared.Matrix2.{Matrix2}

-- the two sums of j with an image
unfoldable pub proj2_of : List ℕ → ℕ → List Float → List Float → List Float → Vector2
proj2_of marks n gxw gyw xs = (product_of marks n gxw xs, product_of marks n gyw xs)

-- h[r][c], the sum of j[r] * j[c]
unfoldable pub hessian2_of : List ℕ → ℕ → List Float → List Float → Matrix2
hessian2_of marks n gxw gyw =
    record { m00 = product_of marks n gxw gxw; m01 = product_of marks n gxw gyw; m10 = product_of marks n gyw gxw; m11 = product_of marks n gyw gyw }
