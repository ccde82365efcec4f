-- The warp goes on: from nothing, through some pixels and then some more, to the whole image. Assumes nothing.
use mathlib.Core.Path.{◌≡◌, refl, sym, ap, ◌∙◌}
use mathlib.Core.List.{List}
use Prim.Native.Nat.{ℕ, ◌+◌, ◌*◌, ◌/◌, ◌%◌, ◌≤◌, ◌<◌}
use native.Mathlib.Nat.{add-zero, zero-add, add_assoc, mul_comm}
use native.Mathlib.Omega.{arith}
use lib.ListN.{length}
use lib.Ieee.{Float}
use Rattle.lists.specs.Lists.{tab, put, image, set_image}
use Rattle.lists.specs.Marked.{words_for}
use Rattle.lists.proofs.Grow.{grid_tab, tab_ext}
use Rattle.lists.proofs.Put.{length_put, put_again}
use Rattle.bits.specs.Words.{words_of, unpacked_of, ones_of}
use Rattle.bits.specs.Packing.{words_to}
use Rattle.bits.specs.Equal.{OnesAreCount}
use Rattle.bits.proofs.Equal.{words_all, length_words, ones_are_count}
use Rattle.rows.specs.Rows.{marked_rows_of}
use Rattle.pose.specs.declared.Map.{Map}
use Rattle.places.specs.Point.{marks_of}
use Rattle.warp.specs.Warp.{pixel_of, warp_of, Warped}
use Rattle.blends.specs.Reads.{three_rows}
use Rattle.blends.proofs.Beside.{three_none, three_join, three_length, three_sources}
use Rattle.warp.specs.Rows.{warped_at, Holding, WarpedThrough}
use Rattle.warp.specs.declared.Found.{Found}
use Rattle.warp.proofs.Marks.{front}

module _ (map : Map) (w h : ℕ) where
  -- words with the first p marks and no other bit, wherever they came from, hold these
  module _ (xs : List ℕ) (room : words_for (w * h) ≤ length xs) (p : ℕ) (ws : List ℕ) (is : ws ≡ put xs 0 (words_to (marks_of map w h) (w * h) p)) where
    abbrev held : List ℕ
    held = words_to (marks_of map w h) (w * h) p

    pub holding_length : length ws ≡ length xs
    holding_length = ap length is ∙ length_put xs 0 held (omega (arith, length_words (marks_of map w h) (w * h) p))

    pub holding : Holding map w h p ws
    holding = is ∙ sym (ap (λ (z : List ℕ). put z 0 held) is ∙ put_again xs 0 held held refl (omega (arith, length_words (marks_of map w h) (w * h) p)))

  -- ---- some pixels, then more
  pub onward_none : (p : ℕ) (xs : List Float) (ws : List ℕ) → Holding map w h p ws → WarpedThrough map w h p 0 xs ws xs ws
  onward_none p xs ws e = record { images = three_none (w * h) p (λ j x. warped_at (image (w * h) j xs) map w h (p + x)) xs; marked = rw add-zero e }

  module _ (p k l : ℕ) (fits : p + k + l ≤ w * h) (xs : List Float) (ws : List ℕ) (room : (6 * (w * h) ≤ length xs) × (words_for (w * h) ≤ length ws)) (xs₁ : List Float) (ws₁ : List ℕ) (first : WarpedThrough map w h p k xs ws xs₁ ws₁) where
    abbrev rule : ℕ → ℕ → Float
    rule j x = warped_at (image (w * h) j xs) map w h (p + x)

    pub onward_length : length xs₁ ≡ length xs
    onward_length = ap length first.images ∙ three_length (w * h) p rule xs k (omega arith) room.0

    pub onward_words : length ws₁ ≡ length ws
    onward_words = holding_length ws room.1 (p + k) ws₁ first.marked

    pub onward_holding : Holding map w h (p + k) ws₁
    onward_holding = holding ws room.1 (p + k) ws₁ first.marked

    kept : (j : ℕ) → j < 3 → image (w * h) j xs₁ ≡ image (w * h) j xs
    kept j J = ap (image (w * h) j) first.images ∙ three_sources (w * h) p rule xs k (omega arith) room.0 j J

    pub onward_more : (xs₂ : List Float) (ws₂ : List ℕ) → WarpedThrough map w h (p + k) l xs₁ ws₁ xs₂ ws₂ → WarpedThrough map w h p (k + l) xs ws xs₂ ws₂
    onward_more xs₂ ws₂ next =
        let n = w * h in
        let to : List ℕ = words_to (marks_of map w h) n (p + k + l) in
        let len : (q : ℕ) → length (words_to (marks_of map w h) n q) ≡ words_for n = length_words (marks_of map w h) n in
        let over : put ws₁ 0 to ≡ put ws 0 to =
        ap (λ (z : List ℕ). put z 0 to) first.marked ∙ put_again ws 0 (words_to (marks_of map w h) n (p + k)) to (len (p + k) ∙ sym (len (p + k + l))) (omega (arith, len (p + k), room.1)) in
        record {
          images =
              next.images
              ∙ ap (three_rows n (p + k) l (λ j x. warped_at (image n j xs₁) map w h (p + k + x))) first.images
              ∙ three_join n p rule xs k l (λ j x. warped_at (image n j xs₁) map w h (p + k + x)) (omega arith) room.0
              (λ j x J X. ap (λ (z : List Float). warped_at z map w h (p + k + x)) (kept j J) ∙ ap (warped_at (image n j xs) map w h) (add_assoc p k x));
          marked = next.marked ∙ over ∙ ap (λ (q : ℕ). put ws 0 (words_to (marks_of map w h) n q)) (add_assoc p k l);
        }

  -- ---- the end
  whole : (src : List Float) → tab (w * h) (λ i. warped_at src map w h (0 + i)) ≡ warp_of src map w h
  unfolding warped_at warp_of
  whole src =
      tab_ext (w * h) _ (λ i. pixel_of src map w h (i % w) (i / w)) (λ i l. ap (λ (z : ℕ). pixel_of src map w h (z % w) (z / w)) (zero-add i))
      ∙ ap (λ (k : ℕ). tab k (λ i. pixel_of src map w h (i % w) (i / w))) (mul_comm w h)
      ∙ sym (grid_tab w h (pixel_of src map w h))

  pub onward_all : (xs xs' : List Float) (ws ws₁ ws' : List ℕ) (r : Found) → words_for (w * h) ≤ length ws → ws₁ ≡ put ws 0 (words_to (marks_of map w h) (w * h) 0) →
      WarpedThrough map w h 0 (w * h) xs ws₁ xs' ws' → r.count ≡ ones_of ws' (words_for (w * h)) → r.rows ≡ marked_rows_of (unpacked_of ws' (w * h)) w h → Warped map w h xs ws xs' ws' r
  unfolding set_image OnesAreCount
  onward_all xs xs' ws ws₁ ws' r room cleared o e f =
      let n = w * h in
      let ms = marks_of map w h in
      let len : (q : ℕ) → length (words_to ms n q) ≡ words_for n = length_words ms n in
      let all : ws' ≡ put ws 0 (words_of ms n) =
      o.marked
      ∙ ap (λ (z : List ℕ). put z 0 (words_to ms n (0 + n))) cleared
      ∙ put_again ws 0 (words_to ms n 0) (words_to ms n (0 + n)) (len 0 ∙ sym (len (0 + n))) (omega (arith, len 0))
      ∙ ap (λ (q : ℕ). put ws 0 (words_to ms n q)) (zero-add n)
      ∙ ap (put ws 0) (words_all ms n) in
      record {
        images = o.images ∙ rw (whole (image n 0 xs), whole (image n 1 xs), whole (image n 2 xs), add-zero (3 * n), add-zero (4 * n), add-zero (5 * n));
        marked = all;
        counted = e ∙ ap (λ (z : List ℕ). ones_of z (words_for n)) all ∙ ones_are_count ms ws n room;
        rows = let told = front map w h ws ws' room all in cc;
      }
