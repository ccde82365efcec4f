-- A frame as f32, resized if a side changes, and blurred: which definition it is, and how many numbers it has. Assumes nothing.
use Prim.Native.Nat.{ℕ, ◌*◌, ◌<◌}
use mathlib.Core.Path.{◌≡◌, refl, sym, ap₂, subst, ◌∙◌}
use mathlib.Core.Bool.{Bool, true, false}
use mathlib.Core.List.{List}
use native.Mathlib.Nat.{mul_comm}
use native.Mathlib.Omega.{arith}
use lib.Dec.{eqb, leb}
use lib.ListN.{length, get_or}
use lib.Ieee.{Float}
use borrow.Author.Tests.{eq-eqb, le-leb, lt-leb, eqb-true}
use Rattle.lists.proofs.Grow.{length_tab, length_grid}
use Rattle.lists.proofs.Cases.{pick_true, pick_false, pick_both}
use Rattle.floats.specs.F32.{f32}
use Rattle.resize.specs.Resize.{resize_of}
use Rattle.resize.proofs.Sizes.{length_resize}
use Rattle.blur.specs.Blur.{rows_of, columns_of, blur_of}
use Rattle.prepare.specs.Prepared.{gray_of, scaled_of, prepared_of}

-- the byte i as f32
abbrev pub gray_at : List ℕ → ℕ → Float
gray_at bytes i = f32 (get_or bytes i 0)

pub length_gray : (bytes : List ℕ) → length (gray_of bytes) ≡ length bytes
unfolding gray_of
length_gray bytes = length_tab (length bytes) (gray_at bytes)

pub length_rows : (ksize w h : ℕ) (src : List Float) → length (rows_of ksize w h src) ≡ w * h
unfolding rows_of
length_rows ksize w h src = length_grid w h _ ∙ mul_comm h w

pub length_columns : (ksize w h : ℕ) (tmp : List Float) → length (columns_of ksize w h tmp) ≡ w * h
unfolding columns_of
length_columns ksize w h tmp = length_grid w h _ ∙ mul_comm h w

module _ (bytes : List ℕ) (w h tw th : ℕ) where
  pub scaled_same : tw ≡ w → th ≡ h → scaled_of bytes w h tw th ≡ gray_of bytes
  unfolding scaled_of
  scaled_same p q = pick_true (eqb tw w) _ _ (eq-eqb tw w p) ∙ pick_true (eqb th h) _ _ (eq-eqb th h q)

  -- a frame whose sides stay, or a resized one
  pub scaled_either : (P : List Float → Type 0) → (tw ≡ w → th ≡ h → P (gray_of bytes)) → P (resize_of bytes w h tw th) → P (scaled_of bytes w h tw th)
  unfolding scaled_of
  scaled_either P same other = by (eqb tw w) (eqb th h) refl refl
    where
      by : (b d : Bool) → eqb tw w ≡ b → eqb th h ≡ d → P (scaled_of bytes w h tw th)
      by true true p q = let m = eqb-true tw w p in let n = eqb-true th h q in subst P (sym (scaled_same m n)) (same m n)
      by true false p q = subst P (sym (pick_true (eqb tw w) _ _ p ∙ pick_false (eqb th h) _ _ q)) other
      by false d p q = subst P (sym (pick_false (eqb tw w) _ _ p)) other

  pub scaled_changed : (tw ≡ w → th ≡ h → ⊥) → scaled_of bytes w h tw th ≡ resize_of bytes w h tw th
  scaled_changed change = scaled_either (λ z. z ≡ resize_of bytes w h tw th) (λ m n. absurd (change m n)) refl

  pub length_scaled : length bytes ≡ w * h → length (scaled_of bytes w h tw th) ≡ tw * th
  length_scaled sized = scaled_either (λ z. length z ≡ tw * th) (λ m n. length_gray bytes ∙ sized ∙ sym (ap₂ (λ (a b : ℕ). a * b) m n)) (length_resize bytes w h tw th)

  module _ (ksize : ℕ) where
    pub length_prepared : length bytes ≡ w * h → length (prepared_of bytes w h tw th ksize) ≡ tw * th
    unfolding prepared_of blur_of
    length_prepared sized = pick_both (λ z. length z ≡ tw * th) (leb ksize 1) (scaled_of bytes w h tw th) _ (length_scaled sized) (length_columns ksize tw th _)

    pub prepared_one : ksize ≡ 1 → prepared_of bytes w h tw th ksize ≡ scaled_of bytes w h tw th
    unfolding prepared_of blur_of
    prepared_one e = pick_true (leb ksize 1) _ _ (le-leb ksize 1 (omega arith))

    pub prepared_more : 1 < ksize → prepared_of bytes w h tw th ksize ≡ columns_of ksize tw th (rows_of ksize tw th (scaled_of bytes w h tw th))
    unfolding prepared_of blur_of
    prepared_more e = pick_false (leb ksize 1) _ _ (lt-leb ksize 1 e)
