-- What preparing a frame makes of the work: the image j + 2 is the prepared frame, j and j + 1 may change, every other number stays. Assumes nothing.
use Prim.Native.Nat.{ℕ, ◌+◌, ◌*◌, ◌%◌, ◌≤◌}
use mathlib.Core.Path.{◌≡◌, refl, sym, ap, ◌∙◌}
use mathlib.Core.Bool.{Bool, true, false}
use mathlib.Core.List.{List}
use native.Mathlib.Omega.{arith}
use lib.Dec.{eqb}
use lib.ListN.{length, drop}
use lib.Ieee.{Float}
use borrow.Author.Tests.{eq-eqb, ne_eqb, eqb-true, eqb-false}
use Rattle.lists.specs.Lists.{image, set_image}
use Rattle.lists.proofs.Fill.{row_in}
use Rattle.lists.proofs.Cases.{pick_true, pick_false, pick_both}
use Rattle.lists.proofs.Images.{image_set, image_set_other, length_set_image, drop_set}
use Rattle.blur.specs.Blur.{rows_of, columns_of}
use Rattle.prepare.specs.Prepared.{scaled_of, prepared_of, prepared_in}
use Rattle.prepare.proofs.Frames.{length_rows, length_columns, prepared_one, prepared_more}
pub use Rattle.prepare.proofs.Frames.{length_scaled, length_prepared}

module _ (j : ℕ) (bytes : List ℕ) (w h tw th ksize : ℕ) (xs : List Float) where
  abbrev scaled : List Float
  scaled = scaled_of bytes w h tw th

  abbrev rows : List Float
  rows = rows_of ksize tw th scaled

  abbrev columns : List Float
  columns = columns_of ksize tw th rows

  -- the work that a blur starts from, that its first pass leaves, and that its second leaves
  abbrev loaded : List Float
  loaded = set_image (tw * th) j scaled xs

  abbrev passed : List Float
  passed = set_image (tw * th) (j + 1) rows loaded

  abbrev blurred : List Float
  blurred = set_image (tw * th) (j + 2) columns passed

  abbrev afterwards : List Float
  afterwards = prepared_in j bytes w h tw th ksize xs

  pub in_one : ksize ≡ 1 → afterwards ≡ set_image (tw * th) (j + 2) scaled xs
  unfolding prepared_in
  in_one e = pick_true (eqb ksize 1) _ _ (eq-eqb ksize 1 e)

  pub in_more : (ksize ≡ 1 → ⊥) → afterwards ≡ blurred
  unfolding prepared_in
  in_more e = pick_false (eqb ksize 1) _ _ (ne_eqb ksize 1 e)

  module _ (sized : length bytes ≡ w * h) (few : j ≤ 9) (fits : 12 * (tw * th) ≤ length xs) where
    -- the images from j to j + 2 lie within the work
    room : (k : ℕ) → k ≤ j + 2 → k * (tw * th) + tw * th ≤ length xs
    room k b = omega (arith, row_in (tw * th) k 12 (omega arith))

    length_store : (k : ℕ) (l ys : List Float) → k ≤ j + 2 → length l ≡ tw * th → length ys ≡ length xs → length (set_image (tw * th) k l ys) ≡ length xs
    length_store k l ys b e q = length_set_image (tw * th) k ys l e (omega (arith, room k b)) ∙ q

    length_loaded : length loaded ≡ length xs
    length_loaded = length_store j scaled xs (omega arith) (length_scaled bytes w h tw th sized) refl

    length_passed : length passed ≡ length xs
    length_passed = length_store (j + 1) rows loaded (omega arith) (length_rows ksize tw th scaled) length_loaded

    -- what is true of the work, and stays true with each store to one of the three images, is true afterwards
    kept : (P : List Float → Type 0) → P xs → ((k : ℕ) (l ys : List Float) → j ≤ k → k ≤ j + 2 → length l ≡ tw * th → length ys ≡ length xs → P ys → P (set_image (tw * th) k l ys)) → P afterwards
    unfolding prepared_in
    kept P p stays =
        let e = length_scaled bytes w h tw th sized in
        pick_both P (eqb ksize 1) _ blurred
        (stays (j + 2) scaled xs (omega arith) (omega arith) e refl p)
        (stays (j + 2) columns passed (omega arith) (omega arith) (length_columns ksize tw th rows) length_passed
        (stays (j + 1) rows loaded (omega arith) (omega arith) (length_rows ksize tw th scaled) length_loaded
        (stays j scaled xs (omega arith) (omega arith) e refl p)))

    pub length_prepared_in : length afterwards ≡ length xs
    length_prepared_in = kept (λ ys. length ys ≡ length xs) refl λ k l ys a b e q p. length_store k l ys b e q

    -- any other image
    pub prepared_other : (k : ℕ) → (k ≡ j → ⊥) → (k ≡ j + 1 → ⊥) → (k ≡ j + 2 → ⊥) → image (tw * th) k afterwards ≡ image (tw * th) k xs
    prepared_other k a b c =
        kept (λ ys. image (tw * th) k ys ≡ image (tw * th) k xs) refl λ i l ys u v e q p.
        image_set_other (tw * th) k i ys l e (omega (arith, room i v)) (λ z. apart i u v z) ∙ p
      where
        apart : (i : ℕ) → j ≤ i → i ≤ j + 2 → k ≡ i → ⊥
        apart i u v z = omega arith

    -- what lies past the first twelve images
    pub prepared_rest : drop (12 * (tw * th)) afterwards ≡ drop (12 * (tw * th)) xs
    prepared_rest =
        kept (λ ys. drop (12 * (tw * th)) ys ≡ drop (12 * (tw * th)) xs) refl λ k l ys a b e q p.
        drop_set (tw * th) k 12 ys l e (omega (arith, room k b)) (omega arith) ∙ p

    -- THE LAW
    pub prepared_image : ksize % 2 ≡ 1 → image (tw * th) (j + 2) afterwards ≡ prepared_of bytes w h tw th ksize
    prepared_image odd = by (eqb ksize 1) refl
      where
        by : (b : Bool) → eqb ksize 1 ≡ b → image (tw * th) (j + 2) afterwards ≡ prepared_of bytes w h tw th ksize
        by true q =
            let one = eqb-true ksize 1 q in
            ap (image (tw * th) (j + 2)) (in_one one)
            ∙ image_set (tw * th) (j + 2) xs scaled (length_scaled bytes w h tw th sized) (room (j + 2) (omega arith))
            ∙ sym (prepared_one bytes w h tw th ksize one)
        by false q =
            let more = eqb-false ksize 1 q in
            ap (image (tw * th) (j + 2)) (in_more more)
            ∙ image_set (tw * th) (j + 2) passed columns (length_columns ksize tw th rows) (omega (arith, length_passed, room (j + 2) (omega arith)))
            ∙ sym (prepared_more bytes w h tw th ksize (omega arith))
