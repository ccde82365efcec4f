-- A piece of a row: by the places, flags and words that are worked out for it, what is read is the warped pixels and what is packed their marks. Assumes nothing.
use mathlib.Core.Path.{◌≡◌, refl, sym, ap, ap₂, ◌∙◌}
use mathlib.Core.Bool.{Bool, true}
use mathlib.Core.List.{List}
use Prim.Native.Nat.{ℕ, ◌+◌, ◌*◌, ◌/◌, ◌%◌, ◌≤◌, ◌<◌}
use native.Mathlib.Nat.{add_assoc}
use native.Mathlib.Omega.{arith}
use lib.Arith.{digits_mod, digits_div}
use lib.ListN.{length, get_or}
use lib.Ieee.{Float, nan}
use Rattle.lists.specs.Lists.{put, image}
use Rattle.lists.specs.Marked.{words_for}
use Rattle.lists.proofs.Cases.{pick_agree}
use Rattle.lists.proofs.Fill.{row_in}
use Rattle.marks.specs.Marks.{on}
use Rattle.floats.specs.F32.{0f}
use Rattle.bits.specs.Words.{unpacked_of}
use Rattle.bits.specs.Packing.{Flags, words_to, Packed}
use Rattle.bits.proofs.Equal.{mark_at}
use Rattle.bits.proofs.Packing.{flags_on, flags_are}
use Rattle.pose.specs.declared.Map.{Map}
use Rattle.places.specs.Point.{sx_of, sy_of, marked_at, marks_of}
use Rattle.places.specs.Places.{PlaceAt, PlacesOf}
use Rattle.places.proofs.Point.{spot_in}
use Rattle.places.proofs.Sizes.{mark_on}
use Rattle.warp.specs.Warp.{pixel_of}
use Rattle.blends.specs.Reads.{three_rows, placed_of}
use Rattle.blends.proofs.Beside.{three_ext}
use Rattle.warp.specs.Rows.{read_of, Reach, warped_at, Holding, WarpedThrough}
use Rattle.warp.proofs.Pixel.{sample_is}

module _ (map : Map) (w h x y len : ℕ) (spots : List ℕ) (across down : List Float) (flags : List ℕ) (p : PlacesOf map w h x y len spots across down flags) (inside : (y < h) × (x + len ≤ w)) where
  abbrev at : ℕ
  at = y * w + x

  -- whether the pixel i of the piece is marked
  abbrev seen : ℕ → Bool
  seen i = marked_at map w h (x + i) y

  pub piece_flags : Flags flags at len
  piece_flags = flags_are flags at len seen p.flags_are

  mark_is : (i : ℕ) → i < len → on (marks_of map w h) (at + i) ≡ seen i
  mark_is i l = ap (on (marks_of map w h)) (add_assoc (y * w) x i) ∙ mark_on map w h (x + i) y (omega arith) inside.0

  pub piece_in : at + len ≤ w * h
  piece_in = omega (arith, row_in w y h inside.0, inside.1)

  -- ---- the words
  module _ (ws ws' : List ℕ) (room : words_for (w * h) ≤ length ws) (held : Holding map w h at ws) (o : Packed flags at len ws ws') where
    pub piece_words : ws' ≡ put ws 0 (words_to (marks_of map w h) (w * h) (at + len))
    piece_words = o.packs (marks_of map w h) ws (w * h) room piece_in (λ i l. mark_is i l ∙ sym (flags_on flags at len seen p.flags_are i l)) held

    on_is : (i : ℕ) → i < len → on (unpacked_of ws' (w * h)) (at + i) ≡ seen i
    on_is i l = mark_at (marks_of map w h) ws (w * h) (at + len) piece_in room ws' piece_words (at + i) (omega arith) ∙ mark_is i l

    place_at : (i : ℕ) → i < len → on (unpacked_of ws' (w * h)) (at + i) ≡ true → PlaceAt w (sx_of map (x + i) y) (sy_of map (x + i) y) (get_or spots i 0) (get_or across i nan) (get_or down i nan)
    place_at i l e = p.places_are i l (sym (on_is i l) ∙ e)

    pub piece_reach : w ≤ 4096 → h ≤ 4096 → Reach (w * h) w at len (unpacked_of ws' (w * h)) spots
    piece_reach W H = record { reach = λ i l e. rw (place_at i l e).at_is (spot_in map w h (x + i) y W H (sym (on_is i l) ∙ e)) }

    -- ---- the pixels
    pixel_here : (src : List Float) (i : ℕ) → i < len → warped_at src map w h (at + i) ≡ pixel_of src map w h (x + i) y
    unfolding warped_at
    pixel_here src i l =
        let few : x + i < w = omega arith in
        ap (λ (z : ℕ). pixel_of src map w h (z % w) (z / w)) (add_assoc (y * w) x i) ∙ ap₂ (pixel_of src map w h) (digits_mod y few) (digits_div y few)

    read_is : (xs : List Float) (k i : ℕ) → i < len → read_of (w * h) w at (unpacked_of ws' (w * h)) spots across down xs k i ≡ warped_at (image (w * h) k xs) map w h (at + i)
    unfolding read_of placed_of pixel_of
    read_is xs k i l = pick_agree _ _ _ _ 0f 0f (on_is i l) (λ e. sample_is (image (w * h) k xs) w _ _ _ _ _ (place_at i l e)) (λ e. refl) ∙ sym (pixel_here (image (w * h) k xs) i l)

    pub piece_of : (xs xs' : List Float) → xs' ≡ three_rows (w * h) at len (read_of (w * h) w at (unpacked_of ws' (w * h)) spots across down xs) xs → WarpedThrough map w h at len xs ws xs' ws'
    piece_of xs xs' e = record { images = e ∙ three_ext (w * h) at len _ _ xs (λ k i K l. read_is xs k i l); marked = piece_words }
