-- Document 02's inverse of the rail's h, request 4, and products of matrix and vector. Definitions only.
use Rattle.std.specs.Prelude.{Float, None, Some, Option}
use Rattle.std.specs.Float.Ieee.{eq, neg}
use Rattle.lists.specs.Marked.{pick}
use Rattle.floats.specs.F32.{◌⊕◌, ◌⊖◌, ◌⊗◌, ◌⊘◌, 0f}
use Rattle.inverse2.specs.declared.Vector2.{Vector2}
use Rattle.inverse2.specs.declared.Matrix2.{Matrix2}

-- D = h00·h11 − h10·h01; rows h11, −h01 and −h10, h00, each entry over D; none where D is ±0
unfoldable pub inverse2_of : Matrix2 → Option Matrix2
inverse2_of h =
    let d = h.m00 ⊗ h.m11 ⊖ h.m10 ⊗ h.m01 in
    pick (eq d 0f) None (Some (record { m00 = h.m11 ⊘ d; m01 = neg h.m01 ⊘ d; m10 = neg h.m10 ⊘ d; m11 = h.m00 ⊘ d }))

unfoldable pub dot2_of : Vector2 → Vector2 → Float
dot2_of a b = a.0 ⊗ b.0 ⊕ a.1 ⊗ b.1

unfoldable pub times2_of : Matrix2 → Vector2 → Vector2
times2_of m v = (dot2_of (m.m00, m.m01) v, dot2_of (m.m10, m.m11) v)
