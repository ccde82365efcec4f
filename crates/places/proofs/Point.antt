-- One point: the four pixels of one inside lie inside, and where they are. Assumes nothing.
use mathlib.Core.Path.{◌≡◌, sym, ap, ◌∙◌, subst₂}
use mathlib.Core.Bool.{Bool, true, false}
use Prim.Native.Nat.{ℕ, suc, ◌+◌, ◌-◌, ◌*◌, ◌^◌, ◌≤◌, ◌<◌}
use native.Mathlib.Nat.{le_trans, mul-le-mul, mul-le-mul_right}
use native.Mathlib.Omega.{arith}
use lib.Dec.{T, le→leb, lit<, lit≤}
use lib.IntN.{pos}
use lib.Ieee.{Float, binary32, fits, round, in_float, in_signed, to_signed, to_unsigned, of_bits}
use lib.Ieee.Fits.{and_l, and_r, add-fits}
use lib.Ieee.Back.{unsigned_back, positive_back}
use Rattle.lists.specs.Marked.{pick}
use Rattle.lists.proofs.Cases.{pick_true}
use Rattle.floats.specs.F32.{◌⊕◌, ◌⊗◌, f32, 0f}
use Rattle.floats.proofs.Exactly.{add_whole, mul_whole}
use Rattle.numbers.specs.Numbers.{floor_of}
use Rattle.numbers.proofs.Small.{Below, below}
use Rattle.pose.specs.declared.Map.{Map}
use Rattle.bits.specs.Packing.{flag_of}
use Rattle.places.specs.Point.{sx_of, sy_of, inside, marked_at, index_of}
use Rattle.places.specs.Places.{PlaceAt, PlaceOf}
use Rattle.places.specs.declared.Place.{Place}

-- ---- a point inside
module _ (w h : ℕ) (sx sy : Float) (t : T (inside w h sx sy)) where
  inside_x : w ≤ 4096 → T (fits binary32 sx) → Below sx (w - 1)
  unfolding inside
  inside_x W f = below sx (w - 1) (omega arith) f (search (and_l, and_r)) (search (and_l, and_r))

  inside_y : h ≤ 4096 → T (fits binary32 sy) → Below sy (h - 1)
  unfolding inside
  inside_y H f = below sy (h - 1) (omega arith) f (search (and_l, and_r)) (search (and_l, and_r))

-- its top left pixel is neither in the last row nor in the last column
corner_in : (x y w h : ℕ) → x < w - 1 → y < h - 1 → y * w + x + w + 1 < w * h
corner_in x y w h p q = omega (arith, mul-le-mul_right {m = suc (suc y)} {n = h} w (omega arith))

-- ---- a coordinate that is taken as 0 outside
zero_below : Below 0f 4096
unfolding of_bits floor_of round to_unsigned
zero_below = record { small = lit≤ tt; index = lit< tt }

zeroed_below : (b : Bool) (s : Float) (k : ℕ) → k ≤ 4096 → (T b → Below s k) → Below (pick b s 0f) 4096
unfolding pick
zeroed_below true s k K f = let u = f tt in record { small = u.small; index = le_trans u.index K }
zeroed_below false s k K f = zero_below

module _ (map : Map) (w h x y : ℕ) where
  abbrev pub zeroed_x : Float
  zeroed_x = pick (marked_at map w h x y) (sx_of map x y) 0f

  abbrev pub zeroed_y : Float
  zeroed_y = pick (marked_at map w h x y) (sy_of map x y) 0f

  pub fits_x : T (fits binary32 (sx_of map x y))
  unfolding sx_of
  fits_x = add-fits binary32 _ _

  pub fits_y : T (fits binary32 (sy_of map x y))
  unfolding sy_of
  fits_y = add-fits binary32 _ _

  module _ (W : w ≤ 4096) (H : h ≤ 4096) where
    pub zeroed_x_lem : Below zeroed_x 4096
    unfolding marked_at
    zeroed_x_lem = zeroed_below (marked_at map w h x y) (sx_of map x y) (w - 1) (omega arith) (λ t. inside_x w h _ _ t W fits_x)

    pub zeroed_y_lem : Below zeroed_y 4096
    unfolding marked_at
    zeroed_y_lem = zeroed_below (marked_at map w h x y) (sy_of map x y) (h - 1) (omega arith) (λ t. inside_y w h _ _ t H fits_y)

    -- the point of a marked pixel, and that its four pixels lie inside
    pub marked_x : marked_at map w h x y ≡ true → Below (sx_of map x y) (w - 1)
    unfolding marked_at
    marked_x e = inside_x w h (sx_of map x y) (sy_of map x y) (rw e tt) W fits_x

    pub marked_y : marked_at map w h x y ≡ true → Below (sy_of map x y) (h - 1)
    unfolding marked_at
    marked_y e = inside_y w h (sx_of map x y) (sy_of map x y) (rw e tt) H fits_y

    pub spot_in : marked_at map w h x y ≡ true → index_of (sy_of map x y) * w + index_of (sx_of map x y) + w + 1 < w * h
    unfolding index_of
    spot_in e = corner_in (index_of (sx_of map x y)) (index_of (sy_of map x y)) w h (marked_x e).index (marked_y e).index

  -- a place, as the code works it out from those coordinates
  pub place_of : (p : Place) → p.flag ≡ flag_of (marked_at map w h x y) (y * w + x) → PlaceAt w zeroed_x zeroed_y p.at p.across p.down → PlaceOf map w h x y p
  place_of p m o =
      record {
        flag_is = m;
        place_is = λ e. subst₂ (λ (sx sy : Float). PlaceAt w sx sy p.at p.across p.down) (pick_true _ _ _ e) (pick_true _ _ _ e) o;
      }

-- ---- where a place is, as the code works it out: a whole number below 2 ^ 24 all along, so nothing is rounded
pub spot_is : (w i j : ℕ) → w ≤ 4096 → i < 4096 → j < 4096 →
    let v = f32 j ⊗ f32 w ⊕ f32 i in T (in_signed binary32 31 v) × (to_signed 31 v ≡ pos (to_unsigned 32 v)) × (to_unsigned 32 v ≡ j * w + i)
unfolding in_float
spot_is w i j W hi hj =
    let last : j ≤ 4095 = omega arith in
    let few : j * w ≤ 4095 * 4096 = mul-le-mul last W in
    let is : f32 j ⊗ f32 w ⊕ f32 i ≡ f32 (j * w + i) = ap (λ (z : Float). z ⊕ f32 i) (mul_whole j w (omega arith) (omega arith) (omega arith)) ∙ add_whole (j * w) i (omega arith) in
    let held = le→leb (j * w + i) (2 ^ 24) (omega arith) in
    let signed = positive_back binary32 31 (j * w + i) held (omega arith) in
    let unsigned = (unsigned_back binary32 32 (j * w + i) held (omega arith)).1 in
    rw is (signed.0, signed.1 ∙ ap pos (sym unsigned), unsigned)
