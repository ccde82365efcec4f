-- Document 000's warp_three_inverse_map. Definitions only.
use Rattle.std.specs.Prelude.{ℕ, ◌+◌, ◌*◌, ◌≡◌, List, get_or, Float}
use Rattle.std.specs.Float.{nan}
use Rattle.lists.specs.Lists.{grid, put, image, set_image}
use Rattle.lists.specs.Marked.{pick}
use Rattle.marks.specs.Marks.{count_on}
use Rattle.bits.specs.Words.{words_of}
use Rattle.floats.specs.F32.{◌⊖◌, f32, 0f}
use Rattle.pose.specs.declared.Map.{Map}
use Rattle.rows.specs.Rows.{marked_rows_of}
use Rattle.places.specs.Point.{sx_of, sy_of, marked_at, marks_of, index_of}
use Rattle.blends.specs.Blend.{four_of}
use Rattle.warp.specs.declared.Found.{Found}

-- the four pixels of the point sx, sy: src[i00], src[i01], src[i10], src[i11], with wx = sx - x0 as f32 and wy = sy - y0 as f32
unfoldable pub sample_of : List Float → ℕ → Float → Float → Float
sample_of src w sx sy =
    let x0 = index_of sx in
    let y0 = index_of sy in
    four_of (get_or src (y0 * w + x0) nan) (get_or src (y0 * w + (x0 + 1)) nan) (get_or src ((y0 + 1) * w + x0) nan) (get_or src ((y0 + 1) * w + (x0 + 1)) nan)
    (sx ⊖ f32 x0) (sy ⊖ f32 y0)

-- a warped pixel: 0 where it is not marked
unfoldable pub pixel_of : List Float → Map → ℕ → ℕ → ℕ → ℕ → Float
pixel_of src map w h x y = pick (marked_at map w h x y) (sample_of src w (sx_of map x y) (sy_of map x y)) 0f

-- a warped image
unfoldable pub warp_of : List Float → Map → ℕ → ℕ → List Float
warp_of src map w h = grid w h (pixel_of src map w h)

-- the part and the words of the marks afterwards; the count of the marks, and the rows that hold one
pub record Warped (map : Map) (w h : ℕ) (xs : List Float) (ws : List ℕ) (xs' : List Float) (ws' : List ℕ) (r : Found) : Type 0 where
  pub images : let n = w * h in xs' ≡ set_image n 5 (warp_of (image n 2 xs) map w h) (set_image n 4 (warp_of (image n 1 xs) map w h) (set_image n 3 (warp_of (image n 0 xs) map w h) xs))
  pub marked : ws' ≡ put ws 0 (words_of (marks_of map w h) (w * h))
  pub counted : r.count ≡ count_on (marks_of map w h) (w * h)
  pub rows : r.rows ≡ marked_rows_of (marks_of map w h) w h
