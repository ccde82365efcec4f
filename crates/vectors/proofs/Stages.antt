-- The image stages: what the code compares is what the definitions give. Assumes nothing.
use Prim.Native.Nat.{ℕ, ◌+◌, ◌*◌, ◌≤◌}
use mathlib.Core.Path.{◌≡◌, refl, sym, ap, ◌∙◌}
use mathlib.Core.List.{List}
use native.Mathlib.Omega.{arith}
use borrow.Author.Tests.{lt-leb}
use lib.Dec.{leb}
use lib.ListN.{length, take, drop}
use lib.Ieee.{Float}
use Rattle.lists.specs.Lists.{put, image, set_image}
use Rattle.lists.proofs.Cases.{pick_false}
use Rattle.lists.proofs.Put.{length_put, take_put_front}
use Rattle.lists.proofs.Images.{image_zero, image_set, length_set_image}
use Rattle.resize.specs.Resize.{resize_of}
use Rattle.kernel.specs.Kernel.{kernel_of}
use Rattle.kernel.proofs.Kernels.{length_kernel}
use Rattle.blur.specs.Blur.{rows_of, columns_of, blur_of}
use Rattle.prepare.specs.Prepared.{prepared_of, prepared_in}
use Rattle.prepare.proofs.Frames.{length_rows, length_columns}
use Rattle.prepare.proofs.Work.{prepared_image}
use Rattle.words.specs.Words.{stored_at, bytes_at, floats_at, floats_agree}
use Rattle.resize.proofs.Sizes.{length_resize}
use Rattle.vectors.specs.Shapes.{FilterIs, Fitting}
use Rattle.vectors.specs.Images.{resize_agrees, kernel_agrees, blur_agrees, gradient_agrees, prepared_agrees}
use Rattle.vectors.specs.declared.shapes.Shape.{Shape}
use Rattle.vectors.proofs.Tests.{and_passed, both}
use Rattle.vectors.proofs.Runs.{length_bytes, length_floats, take_bytes}
use Rattle.vectors.proofs.Sides.{kernel_is}

-- what was put to the front of a part, as its first image
front : (n : ℕ) (xs l : List Float) → length l ≡ n → image n 0 (put xs 0 l) ≡ l
front n xs l e = image_zero n (put xs 0 l) ∙ take_put_front xs l n e

place_is : (n k at : ℕ) (xs : List Float) → at ≡ k * n → take n (drop at xs) ≡ image n k xs
unfolding image
place_is n k at xs e = ap (λ (a : ℕ). take n (drop a xs)) e

-- the words as sides
pub pixels_are : {w h : ℕ} {s : Shape} (f : Fitting w h s) → s.n ≡ w * h
pixels_are f = let a = f.w_is in let b = f.h_is in let p = f.pixels in cc

-- ---- the images k of a part whose front holds the numbers from the word `from` on
module _ (words : List ℕ) (from : ℕ) {w h : ℕ} {s : Shape} (f : Fitting w h s) (xs ys : List Float) (k : ℕ) (room : k * s.n + s.n ≤ length xs) (e : ys ≡ put xs 0 (floats_at words from s.n)) where
  fits : 0 + length (floats_at words from s.n) ≤ length xs
  fits = omega (arith, length_floats words from s.n)

  pub long : length ys ≡ length xs
  long = ap length e ∙ length_put xs 0 (floats_at words from s.n) fits

  pub source_is : image s.n 0 ys ≡ floats_at words from s.n
  source_is = ap (image s.n 0) e ∙ front s.n xs _ (length_floats words from s.n)

module _ (words : List ℕ) where
  -- w, h, numbers: a gradient is its part's image k
  pub gradient_told : {s : Shape} (f : Fitting (stored_at words 1) (stored_at words 2) s) →
      (gradient : ℕ → ℕ → List Float → List Float) → ((w h : ℕ) (src : List Float) → length (gradient w h src) ≡ w * h) →
      (k at : ℕ) (xs ys zs : List Float) → at ≡ k * s.n → k * s.n + s.n ≤ length xs →
      ys ≡ put xs 0 (floats_at words 3 s.n) → zs ≡ set_image (s.w * s.h) k (gradient s.w s.h (image (s.w * s.h) 0 ys)) ys →
      floats_agree words (3 + s.n) (take s.n (drop at zs)) ≡ gradient_agrees gradient words
  unfolding gradient_agrees
  gradient_told {s} f gradient sized k at xs ys zs place room e g =
      let n = s.n in
      let p : s.w * s.h ≡ n = sym f.pixels in
      let image_is : image n k zs ≡ gradient s.w s.h (image n 0 ys) = (rw p at (ap (image n k) g)) ∙ image_set n k ys _ (sized s.w s.h _ ∙ p) (omega (arith, long words 3 f xs ys k room e)) in
      let wide = f.w_is in
      let high = f.h_is in
      let all = pixels_are f in
      let src = source_is words 3 f xs ys k room e in
      and_passed f.is (ap (floats_agree words (3 + n)) (place_is n k at zs place ∙ image_is) ∙ cc)

  -- w, h, the kernel's size, numbers: the blur is its part's image 2
  pub blur_told : {s : Shape} (f : Fitting (stored_at words 1) (stored_at words 2) s) → (r : ℕ) → FilterIs (stored_at words 3) r → 3 ≤ r →
      (xs ys zs : List Float) → 3 * s.n ≤ length xs → ys ≡ put xs 0 (floats_at words 4 s.n) →
      zs ≡ set_image (s.w * s.h) 2 (columns_of r s.w s.h (rows_of r s.w s.h (image (s.w * s.h) 0 ys))) (set_image (s.w * s.h) 1 (rows_of r s.w s.h (image (s.w * s.h) 0 ys)) ys) →
      floats_agree words (4 + s.n) (take s.n (drop (2 * s.n) zs)) ≡ blur_agrees words
  unfolding blur_agrees blur_of
  blur_told {s} f r k more xs ys zs room e g =
      let n = s.n in
      let p : s.w * s.h ≡ n = sym f.pixels in
      let rows = rows_of r s.w s.h (image n 0 ys) in
      let size : length rows ≡ n = length_rows r s.w s.h _ ∙ p in
      let lengths = long words 4 f xs ys 2 (omega arith) e in
      let first : length (set_image n 1 rows ys) ≡ length ys = length_set_image n 1 ys rows size (omega arith) in
      let image_is : image n 2 zs ≡ columns_of r s.w s.h rows = (rw p at (ap (image n 2) g)) ∙ image_set n 2 (set_image n 1 rows ys) _ (length_columns r s.w s.h _ ∙ p) (omega arith) in
      let wide = f.w_is in
      let high = f.h_is in
      let all = pixels_are f in
      let src = source_is words 4 f xs ys 2 (omega arith) e in
      let kernel = k.same in
      let blurs = pick_false (leb (stored_at words 3) 1) (floats_at words 4 (stored_at words 1 * stored_at words 2)) (columns_of (stored_at words 3) (stored_at words 1) (stored_at words 2) (rows_of (stored_at words 3) (stored_at words 1) (stored_at words 2) (floats_at words 4 (stored_at words 1 * stored_at words 2)))) (lt-leb (stored_at words 3) 1 (omega (arith, k.same))) in
      and_passed (both f.is (kernel_is k more)) (ap (floats_agree words (4 + n)) (place_is n 2 (2 * n) zs refl ∙ image_is) ∙ cc)

  -- the kernel's size: the weights are the array's front
  pub kernel_told : (r : ℕ) → FilterIs (stored_at words 1) r → 3 ≤ r → (xs ys : List Float) → ys ≡ put xs 0 (kernel_of r) → floats_agree words 2 (take r ys) ≡ kernel_agrees words
  unfolding kernel_agrees
  kernel_told r f h xs ys e =
      and_passed (kernel_is f h) (ap (floats_agree words 2) (ap (take r) e ∙ take_put_front xs (kernel_of r) r (length_kernel r) ∙ ap kernel_of f.same))

  -- w, h, the sides after, bytes: the numbers are the array's front
  module _ {s t : Shape} (f : Fitting (stored_at words 1) (stored_at words 2) s) (g : Fitting (stored_at words 3) (stored_at words 4) t) where
    pub resize_told : (src : List ℕ) (xs ys : List Float) → src ≡ bytes_at words 5 1024 → ys ≡ put xs 0 (resize_of (take s.n src) s.w s.h t.w t.h) → floats_agree words (5 + s.n) (take t.n ys) ≡ resize_agrees words
    unfolding resize_agrees
    resize_told src xs ys b e =
        let n = s.n in
        let bytes : take n src ≡ bytes_at words 5 n = ap (take n) b ∙ take_bytes words 5 n 1024 f.few in
        let got : take t.n ys ≡ resize_of (take n src) s.w s.h t.w t.h = ap (take t.n) e ∙ take_put_front xs _ t.n (length_resize (take n src) s.w s.h t.w t.h ∙ sym g.pixels) in
        let wide = f.w_is in
        let high = f.h_is in
        let after = g.w_is in
        let above = g.h_is in
        let all = pixels_are f in
        and_passed (both f.is g.is) (ap (floats_agree words (5 + n)) got ∙ cc)

    -- w, h, the sides after, the kernel's size, bytes: the prepared frame is the work's image 8
    pub prepared_told : (r : ℕ) → FilterIs (stored_at words 5) r → (src : List ℕ) (xs ys : List Float) → 12 * t.n ≤ length xs → src ≡ bytes_at words 6 1024 →
        ys ≡ prepared_in 6 (take s.n src) s.w s.h t.w t.h r xs → floats_agree words (6 + s.n) (take t.n (drop (8 * t.n) ys)) ≡ prepared_agrees words
    unfolding prepared_agrees
    prepared_told r k src xs ys room b e =
        let n = s.n in
        let m = t.n in
        let p : t.w * t.h ≡ m = sym g.pixels in
        let bytes : take n src ≡ bytes_at words 6 n = ap (take n) b ∙ take_bytes words 6 n 1024 f.few in
        let sized : length (take n src) ≡ s.w * s.h = ap length bytes ∙ length_bytes words 6 n ∙ f.pixels in
        let got : image m 8 ys ≡ prepared_of (take n src) s.w s.h t.w t.h r = ap (image m 8) e ∙ (rw p at (prepared_image 6 (take n src) s.w s.h t.w t.h r xs sized (omega arith) (rw p room) k.odd)) in
        let kernel = k.same in
        let wide = f.w_is in
        let high = f.h_is in
        let after = g.w_is in
        let above = g.h_is in
        let all = pixels_are f in
        and_passed (both (both f.is g.is) k.is) (ap (floats_agree words (6 + n)) (place_is m 8 (8 * m) ys refl ∙ got) ∙ cc)
