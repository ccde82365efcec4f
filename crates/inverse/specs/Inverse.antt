-- Document 01's inverse of h: P, Q, R and D in its order, and products of matrix and vector. Definitions only.
use Rattle.std.specs.Prelude.{List, [], ◌∷◌, Float, None, Some, Option}
use Rattle.std.specs.Float.Ieee.{eq, neg}
use Rattle.lists.specs.Marked.{pick}
use Rattle.floats.specs.F32.{◌⊕◌, ◌⊖◌, ◌⊗◌, ◌⊘◌, 0f}
use Rattle.inverse.specs.declared.Vector3.{Vector3}
use Rattle.inverse.specs.declared.Matrix3.{Matrix3}

-- the rows, each entry over D
unfoldable pub rows_over_of : Matrix3 → Float → Float → Float → Float → Matrix3
rows_over_of h p q r d = record {
  m00 = p ⊘ d;
  m01 = (h.m02 ⊗ h.m21 ⊖ h.m22 ⊗ h.m01) ⊘ d;
  m02 = (h.m01 ⊗ h.m12 ⊖ h.m11 ⊗ h.m02) ⊘ d;
  m10 = neg q ⊘ d;
  m11 = (h.m00 ⊗ h.m22 ⊖ h.m20 ⊗ h.m02) ⊘ d;
  m12 = (h.m02 ⊗ h.m10 ⊖ h.m12 ⊗ h.m00) ⊘ d;
  m20 = r ⊘ d;
  m21 = (h.m01 ⊗ h.m20 ⊖ h.m21 ⊗ h.m00) ⊘ d;
  m22 = (h.m00 ⊗ h.m11 ⊖ h.m10 ⊗ h.m01) ⊘ d;
}

-- none where D is ±0
unfoldable pub inverse_of : Matrix3 → Option Matrix3
inverse_of h =
    let p = h.m11 ⊗ h.m22 ⊖ h.m21 ⊗ h.m12 in
    let q = h.m10 ⊗ h.m22 ⊖ h.m20 ⊗ h.m12 in
    let r = h.m10 ⊗ h.m21 ⊖ h.m20 ⊗ h.m11 in
    let d = (h.m00 ⊗ p ⊖ h.m01 ⊗ q) ⊕ h.m02 ⊗ r in
    pick (eq d 0f) None (Some (rows_over_of h p q r d))

unfoldable pub dot_of : Vector3 → Vector3 → Float
dot_of a b = a.0 ⊗ b.0 ⊕ a.1 ⊗ b.1 ⊕ a.2 ⊗ b.2

unfoldable pub times_of : Matrix3 → Vector3 → Vector3
times_of m v = (dot_of (m.m00, m.m01, m.m02) v, dot_of (m.m10, m.m11, m.m12) v, dot_of (m.m20, m.m21, m.m22) v)

-- the nine entries of a matrix, row after row
abbrev pub entries_of : Matrix3 → List Float
entries_of m = m.m00 ∷ m.m01 ∷ m.m02 ∷ m.m10 ∷ m.m11 ∷ m.m12 ∷ m.m20 ∷ m.m21 ∷ m.m22 ∷ []
