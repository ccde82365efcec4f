-- When a vector of a part of a pass agrees with the definitions. Definitions only.
use Rattle.std.specs.Prelude.{ℕ, ◌+◌, ◌*◌, Bool, true, ◌&&◌, List, [], ◌∷◌, ◌++◌, leb, eqb, length, get_or, Float, None, Some, Option}
use Rattle.std.specs.Float.{nan}
use Rattle.lists.specs.Marked.{pick}
use Rattle.marks.specs.Marks.{on, count_on}
use Rattle.inverse.specs.Inverse.{inverse_of, entries_of}
use Rattle.inverse.specs.declared.Matrix3.{Matrix3}
use Rattle.rows.specs.Rows.{marked_rows_of}
use Rattle.pose.specs.declared.Map.{Map}
use Rattle.places.specs.Point.{marks_of}
use Rattle.warp.specs.Warp.{warp_of}
use Rattle.stats.specs.Stats.{centred_of, stats_of}
use Rattle.stats.specs.declared.Stats.{Stats}
use Rattle.words.specs.Words.{stored_at, float_of, has_bits, bytes_at, floats_at, all_below, floats_agree, bytes_agree}
use Rattle.vectors.specs.Shapes.{is_shape}
use Rattle.vectors.specs.Kinds.{of_kind}
use Rattle.rows.specs.declared.Rows.{Rows}

-- the first two rows of a matrix, from the word i on
unfoldable pub map_at : List ℕ → ℕ → Map
map_at words i = record {
  m00 = float_of (stored_at words i);
  m01 = float_of (stored_at words (i + 1));
  m02 = float_of (stored_at words (i + 2));
  m10 = float_of (stored_at words (i + 3));
  m11 = float_of (stored_at words (i + 4));
  m12 = float_of (stored_at words (i + 5));
}

-- a matrix, from the word i on
unfoldable pub matrix_at : List ℕ → ℕ → Matrix3
matrix_at words i = record {
  m00 = float_of (stored_at words i);
  m01 = float_of (stored_at words (i + 1));
  m02 = float_of (stored_at words (i + 2));
  m10 = float_of (stored_at words (i + 3));
  m11 = float_of (stored_at words (i + 4));
  m12 = float_of (stored_at words (i + 5));
  m20 = float_of (stored_at words (i + 6));
  m21 = float_of (stored_at words (i + 7));
  m22 = float_of (stored_at words (i + 8));
}

-- w, h, the map, three images; three images, marks, their count
unfoldable pub warp_agrees : List ℕ → Bool
warp_agrees words =
    let w = stored_at words 1 in
    let h = stored_at words 2 in
    let n = w * h in
    let map = map_at words 3 in
    let warped : ℕ → List Float = λ k. warp_of (floats_at words (9 + k * n) n) map w h in
    is_shape w h
    && (floats_agree words (9 + 3 * n) (warped 0 ++ (warped 1 ++ warped 2))
    && bytes_agree words (9 + 6 * n) (marks_of map w h)
    && eqb (count_on (marks_of map w h) n) (stored_at words (9 + 7 * n)))

-- of n pixels: after the marks stand the image and the template, here centred
abbrev pub image_at : List ℕ → ℕ → List Float
image_at words n = centred_of (bytes_at words 2 n) n (floats_at words (2 + n) n)

abbrev pub template_at : List ℕ → ℕ → List Float
template_at words n = centred_of (bytes_at words 2 n) n (floats_at words (2 + 2 * n) n)

-- both norms, and the correlation
abbrev pub norms_of : Stats → List Float
norms_of r = r.tmp_norm ∷ r.img_norm ∷ r.corr ∷ []

-- the floats have the bit patterns of the words from `from` on, at the marked places
unfoldable pub marked_agree : List ℕ → List ℕ → ℕ → List Float → Bool
marked_agree ms words from xs = all_below (length xs) (λ i. pick (on ms i) (has_bits (get_or xs i nan) (stored_at words (from + i))) true)

-- pixels, marks, image, template; centred template and centred image at the marked pixels, norms, correlation
unfoldable pub stats_agree : List ℕ → Bool
stats_agree words =
    let n = stored_at words 1 in
    let ms = bytes_at words 2 n in
    leb n 1024
    && (marked_agree ms words (2 + 3 * n) (template_at words n)
    && marked_agree ms words (2 + 4 * n) (image_at words n)
    && floats_agree words (2 + 5 * n) (norms_of (stats_of ms n (template_at words n) (image_at words n))))

-- 1 and the first and the last row that hold a mark, or 0, from the word i on
abbrev pub rows_told : List ℕ → ℕ → Option Rows → Bool
rows_told words i None = eqb (stored_at words i) 0
rows_told words i (Some rows) = eqb (stored_at words i) 1 && (eqb (stored_at words (i + 1)) rows.first && eqb (stored_at words (i + 2)) rows.last)

-- w, h, marks; the rows that hold one
unfoldable pub rows_agree : List ℕ → Bool
rows_agree words =
    let w = stored_at words 1 in
    let h = stored_at words 2 in
    is_shape w h && rows_told words (3 + w * h) (marked_rows_of (bytes_at words 3 (w * h)) w h)

-- 1 and the inverse's entries, or 0, from the word 10 on
abbrev pub inverse_told : List ℕ → Option Matrix3 → Bool
inverse_told words None = eqb (stored_at words 10) 0
inverse_told words (Some m) = eqb (stored_at words 10) 1 && floats_agree words 11 (entries_of m)

-- nine entries; the inverse
unfoldable pub inverse_agrees : List ℕ → Bool
inverse_agrees words = inverse_told words (inverse_of (matrix_at words 1))

abbrev pub pass_table : List ℕ → List (ℕ × Bool)
pass_table words = (23, warp_agrees words) ∷ (24, stats_agree words) ∷ (25, inverse_agrees words) ∷ (28, rows_agree words) ∷ []

unfoldable pub pass_agrees : ℕ → List ℕ → Bool
pass_agrees kind words = of_kind kind (pass_table words)
