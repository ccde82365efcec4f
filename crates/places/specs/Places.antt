-- Where the pixels of a row lie in the source: their places, weights and flags. Definitions only.
use Rattle.std.specs.Prelude.{ℕ, ◌+◌, ◌*◌, ◌<◌, true, ◌≡◌, List, get_or, Float}
use Rattle.std.specs.Float.{nan}
use Rattle.bits.specs.Packing.{flag_of}
use Rattle.floats.specs.F32.{◌⊖◌, f32}
use Rattle.pose.specs.declared.Map.{Map}
use Rattle.places.specs.declared.Place.{Place}
use Rattle.places.specs.Point.{sx_of, sy_of, marked_at, index_of}

-- of the point sx, sy: where the top left of its four pixels lies in an image, and the weights of the right and of the lower ones
pub record PlaceAt (w : ℕ) (sx sy : Float) (at : ℕ) (across down : Float) : Type 0 where
  pub at_is : at ≡ index_of sy * w + index_of sx
  pub across_is : across ≡ sx ⊖ f32 (index_of sx)
  pub down_is : down ≡ sy ⊖ f32 (index_of sy)

-- the flag of a pixel, and the place of one that is marked
pub record PlaceOf (map : Map) (w h x y : ℕ) (p : Place) : Type 0 where
  pub flag_is : p.flag ≡ flag_of (marked_at map w h x y) (y * w + x)
  pub place_is : marked_at map w h x y ≡ true → PlaceAt w (sx_of map x y) (sy_of map x y) p.at p.across p.down

-- of the k pixels from x on of the row y, stored in four lists: the places of those that are marked, and the flags of all
pub record PlacesOf (map : Map) (w h x y k : ℕ) (spots : List ℕ) (across down : List Float) (flags : List ℕ) : Type 0 where
  pub places_are : (i : ℕ) → i < k → marked_at map w h (x + i) y ≡ true →
      PlaceAt w (sx_of map (x + i) y) (sy_of map (x + i) y) (get_or spots i 0) (get_or across i nan) (get_or down i nan)
  pub flags_are : (i : ℕ) → i < k → get_or flags i 0 ≡ flag_of (marked_at map w h (x + i) y) (y * w + x + i)
