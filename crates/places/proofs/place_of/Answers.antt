-- `places::place_of` meets its contract. Outside, the point is taken as 0, so that its whole parts are small all the same. Assumes nothing.
use Prim.Native.Nat.{ℕ, ◌+◌, ◌*◌, ◌≤◌, ◌<◌}
use mathlib.Core.Path.{◌≡◌, refl, ap, ap₂, ◌∙◌}
use mathlib.Core.Bool.{Bool}
use native.Mathlib.Omega.{arith}
use lib.Dec.{T}
use lib.IntN.{pos}
use lib.Ieee.{Float, binary32, in_signed, to_signed, to_unsigned}
use Rattle.lists.specs.Marked.{pick}
use Rattle.floats.specs.F32.{◌⊕◌, ◌⊖◌, ◌⊗◌, f32, 0f}
use Rattle.numbers.proofs.Small.{Below}
use Rattle.bits.specs.Packing.{flag_of}
use Rattle.pose.specs.declared.Map.{Map}
use Rattle.places.specs.Point.{sx_of, sy_of, inside, marked_at, index_of}
use Rattle.places.specs.Places.{PlaceOf}
use Rattle.places.specs.declared.Place.{Place}
use Rattle.places.proofs.Point.{zeroed_x, zeroed_y, zeroed_x_lem, zeroed_y_lem, spot_is, place_of}
use Rattle.places.proofs.Finite.{finite_x, finite_y}
use Rattle.places.proofs.place_of.Goals as goal

-- what the code has worked out: the point, whether it is inside, and its coordinates or 0
module _ (map : Map) (w h x y : ℕ) (W : w ≤ 4096) (H : h ≤ 4096) (sx sy tx ty : Float) (within : Bool) (sx_is : sx ≡ sx_of map x y) (sy_is : sy ≡ sy_of map x y)
    (told : within ≡ inside w h sx sy) (tx_told : tx ≡ pick within sx 0f) (ty_told : ty ≡ pick within sy 0f) where
  within_is : within ≡ marked_at map w h x y
  unfolding marked_at
  within_is = told ∙ ap₂ (inside w h) sx_is sy_is

  tx_is : tx ≡ zeroed_x map w h x y
  tx_is = tx_told ∙ ap₂ (λ (b : Bool) (s : Float). pick b s 0f) within_is sx_is

  ty_is : ty ≡ zeroed_y map w h x y
  ty_is = ty_told ∙ ap₂ (λ (b : Bool) (s : Float). pick b s 0f) within_is sy_is

  below_x : Below tx 4096
  below_x = rw tx_is (zeroed_x_lem map w h x y W H)

  below_y : Below ty 4096
  below_y = rw ty_is (zeroed_y_lem map w h x y W H)

  -- and their floors
  module _ (x0 y0 side : Float) (x0_is : x0 ≡ f32 (index_of tx)) (y0_is : y0 ≡ f32 (index_of ty)) (side_is : side ≡ f32 w) where
    spot : let v = y0 ⊗ side ⊕ x0 in T (in_signed binary32 31 v) × (to_signed 31 v ≡ pos (to_unsigned 32 v)) × (to_unsigned 32 v ≡ index_of ty * w + index_of tx)
    unfolding index_of
    spot = rw (y0_is, x0_is, side_is) (spot_is w _ _ W below_x.index below_y.index)

    placed : (p : Place) → p.at ≡ to_unsigned 32 (y0 ⊗ side ⊕ x0) → p.across ≡ tx ⊖ x0 → p.down ≡ ty ⊖ y0 → p.flag ≡ flag_of within (y * w + x) → PlaceOf map w h x y p
    placed p at across down flag =
        place_of map w h x y p (flag ∙ ap (λ (b : Bool). flag_of b (y * w + x)) within_is)
        (record {
          at_is = at ∙ spot.2 ∙ ap₂ (λ (s t : Float). index_of t * w + index_of s) tx_is ty_is;
          across_is = across ∙ ap₂ ◌⊖◌ tx_is (x0_is ∙ ap (λ (s : Float). f32 (index_of s)) tx_is);
          down_is = down ∙ ap₂ ◌⊖◌ ty_is (y0_is ∙ ap (λ (s : Float). f32 (index_of s)) ty_is);
        })

le_of_lt_of_le : {a b c : ℕ} → a < b → b ≤ c → a ≤ c
le_of_lt_of_le h l = omega arith

pub is_inside-within-requires : goal.is_inside-within-requires
is_inside-within-requires g c =
    let a = c.args in
    let r = c.requires in (
      record { w_least = omega arith; w_most = r.1; h_least = omega arith; h_most = r.3 },
      λ e. let s = r.4 e in (rw c.point_x-sx.ensures (finite_x a.map s a.x a.y (omega arith) (omega arith)), rw c.point_y-sy.ensures (finite_y a.map s a.x a.y (omega arith) (omega arith))),
    )

pub floor_small-x0-requires : goal.floor_small-x0-requires
floor_small-x0-requires g c =
    let a = c.args in
    (below_x a.map a.w a.h a.x a.y (omega arith) (omega arith) _ _ _ _ _ c.point_x-sx.ensures c.point_y-sy.ensures c.is_inside-within.ensures c.or_zero-tx.ensures c.or_zero-ty.ensures).small

pub floor_small-y0-requires : goal.floor_small-y0-requires
floor_small-y0-requires g c =
    let a = c.args in
    (below_y a.map a.w a.h a.x a.y (omega arith) (omega arith) _ _ _ _ _ c.point_x-sx.ensures c.point_y-sy.ensures c.is_inside-within.ensures c.or_zero-tx.ensures c.or_zero-ty.ensures).small

pub index-at-requires : goal.index-at-requires
unfolding index_of
index-at-requires g c =
    let a = c.args in
    let p = spot a.map a.w a.h a.x a.y (omega arith) (omega arith) _ _ _ _ _ c.point_x-sx.ensures c.point_y-sy.ensures c.is_inside-within.ensures c.or_zero-tx.ensures c.or_zero-ty.ensures _ _ _ c.floor_small-x0.ensures c.floor_small-y0.ensures c.to_f32_short.ensures in
    (p.0, p.1)

pub returns : goal.returns
unfolding index_of
returns g c =
    let a = c.args in
    placed a.map a.w a.h a.x a.y (omega arith) (omega arith) _ _ _ _ _ c.point_x-sx.ensures c.point_y-sy.ensures c.is_inside-within.ensures c.or_zero-tx.ensures c.or_zero-ty.ensures _ _ _ c.floor_small-x0.ensures c.floor_small-y0.ensures c.to_f32_short.ensures
    _ c.index-at.ensures refl refl c.flag-flag.ensures
