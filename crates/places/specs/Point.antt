-- Of document 000's warp_three_inverse_map: the computed point of a pixel, whether it lies inside, and the marks. Definitions only.
use Rattle.std.specs.Prelude.{ℕ, ◌-◌, ◌^◌, Bool, ◌&&◌, List, Float}
use Rattle.std.specs.Float.Ieee.{le, lt, to_unsigned}
use Rattle.lists.specs.Lists.{grid}
use Rattle.lists.specs.Marked.{pick}
use Rattle.floats.specs.Bound.{Within}
use Rattle.floats.specs.F32.{◌⊕◌, ◌⊗◌, f32, 0f}
use Rattle.numbers.specs.Numbers.{floor_of}
use Rattle.pose.specs.declared.Map.{Map}

-- sx = map[0][0] * xf + map[0][1] * yf + map[0][2]
unfoldable pub sx_of : Map → ℕ → ℕ → Float
sx_of map x y = map.m00 ⊗ f32 x ⊕ map.m01 ⊗ f32 y ⊕ map.m02

-- sy = map[1][0] * xf + map[1][1] * yf + map[1][2]
unfoldable pub sy_of : Map → ℕ → ℕ → Float
sy_of map x y = map.m10 ⊗ f32 x ⊕ map.m11 ⊗ f32 y ⊕ map.m12

-- sx >= 0.0 && sy >= 0.0 && sx < (w - 1) as f32 && sy < (h - 1) as f32
unfoldable pub inside : ℕ → ℕ → Float → Float → Bool
inside w h sx sy = le 0f sx && le 0f sy && lt sx (f32 (w - 1)) && lt sy (f32 (h - 1))

-- the pixel x, y is marked
unfoldable pub marked_at : Map → ℕ → ℕ → ℕ → ℕ → Bool
marked_at map w h x y = inside w h (sx_of map x y) (sy_of map x y)

-- valid[y * w + x]: 1 where marked, else 0
unfoldable pub mark_of : Map → ℕ → ℕ → ℕ → ℕ → ℕ
mark_of map w h x y = pick (marked_at map w h x y) 1 0

-- valid
unfoldable pub marks_of : Map → ℕ → ℕ → List ℕ
marks_of map w h = grid w h (mark_of map w h)

-- x0 = sx.floor() as usize, and y0 likewise
unfoldable pub index_of : Float → ℕ
index_of s = to_unsigned 64 (floor_of s)

-- the entries are finite and not too large, so each computed point is finite
pub record Small (map : Map) : Type 0 where
  pub m00_small : Within map.m00 (2 ^ 80) 1
  pub m01_small : Within map.m01 (2 ^ 80) 1
  pub m02_small : Within map.m02 (2 ^ 80) 1
  pub m10_small : Within map.m10 (2 ^ 80) 1
  pub m11_small : Within map.m11 (2 ^ 80) 1
  pub m12_small : Within map.m12 (2 ^ 80) 1
