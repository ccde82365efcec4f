-- The loop that works out the places, weights and flags of a part of a row: its start, its turn and its end. Assumes nothing.
use mathlib.Core.Path.{◌≡◌, sym, ap, ◌∙◌}
use mathlib.Core.Bool.{true}
use mathlib.Core.Logic.{◌⊎◌, inl, inr}
use mathlib.Core.List.{List}
use Prim.Native.Nat.{ℕ, ◌+◌, ◌*◌, ◌≤◌, ◌<◌}
use native.Mathlib.Nat.{eq-or-lt_of_le, add_assoc}
use native.Mathlib.Omega.{arith}
use lib.ListN.{get_or, set, length-set}
use lib.Seq.{get_or-set_same, get_or-set_other}
use lib.Ieee.{Float, nan}
use Rattle.lists.specs.Premises.{Scratch}
use Rattle.bits.specs.Packing.{flag_of}
use Rattle.pose.specs.declared.Map.{Map}
use Rattle.places.specs.Point.{sx_of, sy_of, marked_at}
use Rattle.places.specs.Places.{PlaceAt, PlaceOf, PlacesOf}
use Rattle.places.specs.declared.Place.{Place}

module _ (map : Map) (w h x y len : ℕ) where
  -- what holds after k of the len pixels
  pub record PlacesHeld (spots : List ℕ) (across down : List Float) (flags : List ℕ) (k : ℕ) : Type 0 where
    pub bound : k ≤ len
    pub room : Scratch len spots across down flags
    pub so_far : PlacesOf map w h x y k spots across down flags

  pub places_start : (spots : List ℕ) (across down : List Float) (flags : List ℕ) → Scratch len spots across down flags → PlacesHeld spots across down flags 0
  places_start spots across down flags r =
      record { bound = omega arith; room = r; so_far = record { places_are = λ i h. absurd (omega arith); flags_are = λ i h. absurd (omega arith) } }

  -- one more pixel, stored behind those that are there
  module _ (spots : List ℕ) (across down : List Float) (flags : List ℕ) (k : ℕ) (p : Place) (K : k < len) (q : PlacesHeld spots across down flags k) (o : PlaceOf map w h (x + k) y p) where
    abbrev spots' : List ℕ
    spots' = set spots k p.at

    abbrev across' : List Float
    across' = set across k p.across

    abbrev down' : List Float
    down' = set down k p.down

    abbrev flags' : List ℕ
    flags' = set flags k p.flag

    below : (i : ℕ) → i < k + 1 → (i ≡ k) ⊎ (i < k)
    below i l = eq-or-lt_of_le (under i l)
      where
        under : (i : ℕ) → i < k + 1 → i ≤ k
        under i l = omega arith

    place_more : (i : ℕ) → marked_at map w h (x + i) y ≡ true → (i ≡ k) ⊎ (i < k) → PlaceAt w (sx_of map (x + i) y) (sy_of map (x + i) y) (get_or spots' i 0) (get_or across' i nan) (get_or down' i nan)
    place_more i e (inl r) =
        let f = q.room in
        rw (r, get_or-set_same spots k p.at 0 (omega (arith, f.spots_fit)), get_or-set_same across k p.across nan (omega (arith, f.across_fit)), get_or-set_same down k p.down nan (omega (arith, f.down_fit))) (o.place_is (rw r at e))
    place_more i e (inr r) =
        let ne : i ≡ k → ⊥ = λ s. omega arith in
        rw (get_or-set_other spots k i p.at 0 ne, get_or-set_other across k i p.across nan ne, get_or-set_other down k i p.down nan ne) (q.so_far.places_are i r e)

    flag_more : (i : ℕ) → (i ≡ k) ⊎ (i < k) → get_or flags' i 0 ≡ flag_of (marked_at map w h (x + i) y) (y * w + x + i)
    flag_more i (inl r) = rw (r, get_or-set_same flags k p.flag 0 (omega (arith, q.room.flags_fit))) (o.flag_is ∙ ap (flag_of (marked_at map w h (x + k) y)) (sym (add_assoc (y * w) x k)))
    flag_more i (inr r) = get_or-set_other flags k i p.flag 0 (λ s. omega arith) ∙ q.so_far.flags_are i r

    pub places_turn : PlacesHeld spots' across' down' flags' (k + 1)
    places_turn =
        let f = q.room in
        record {
          bound = omega arith;
          room = record {
            spots_fit = simp length-set f.spots_fit;
            across_fit = simp length-set f.across_fit;
            down_fit = simp length-set f.down_fit;
            flags_fit = simp length-set f.flags_fit;
          };
          so_far = record { places_are = λ i l e. place_more i e (below i l); flags_are = λ i l. flag_more i (below i l) };
        }
