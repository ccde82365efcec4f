-- Words as floats and bytes in the arrays of the tests: an image of them, and the images of a part that lie one after another. Assumes nothing.
use Prim.Native.Nat.{ℕ, ◌+◌, ◌*◌, ◌≤◌, ◌<◌}
use mathlib.Core.Path.{◌≡◌, sym, ap, ◌∙◌}
use mathlib.Core.List.{List, ◌++◌}
use native.Mathlib.Nat.{add_assoc}
use native.Mathlib.Omega.{arith}
use lib.ListN.{length, take, drop, get_or, length-drop}
use lib.Seq.{get_or-take, ext_get_or, take-add, drop-drop, length-take-le}
use lib.Ieee.{Float, nan}
use Rattle.lists.specs.Lists.{put, image}
use Rattle.lists.proofs.Grow.{length_tab, get_d_tab}
use Rattle.lists.proofs.Put.{length_put, get_d_put_in}
use Rattle.lists.proofs.Images.{get_d_image}
use Rattle.words.specs.Words.{stored_at, float_of, bytes_at, floats_at}

module _ (words : List ℕ) (from : ℕ) where
  pub length_bytes : (n : ℕ) → length (bytes_at words from n) ≡ n
  unfolding bytes_at
  length_bytes n = length_tab n _

  pub length_floats : (n : ℕ) → length (floats_at words from n) ≡ n
  unfolding floats_at
  length_floats n = length_tab n _

  -- the front of more bytes
  pub take_bytes : (n m : ℕ) → n ≤ m → take n (bytes_at words from m) ≡ bytes_at words from n
  unfolding bytes_at
  take_bytes n m h =
      let e : length (take n (bytes_at words from m)) ≡ n = length-take-le n (bytes_at words from m) (omega (arith, length_bytes m)) in
      ext_get_or 0 _ _ (e ∙ sym (length_bytes n)) λ i l.
      let b : i < n = omega arith in
      get_or-take n (bytes_at words from m) i 0 b ∙ get_d_tab m i _ 0 (omega arith) ∙ sym (get_d_tab n i _ 0 b)

  -- an image of the floats that were put to the front
  pub image_floats : (n m k : ℕ) (xs : List Float) → k * n + n ≤ m → m ≤ length xs → image n k (put xs 0 (floats_at words from m)) ≡ floats_at words (from + k * n) n
  unfolding floats_at image
  image_floats n m k xs h fits =
      let l = floats_at words from m in
      let room : 0 + length l ≤ length xs = omega (arith, length_floats m) in
      let e : length (image n k (put xs 0 l)) ≡ n = length-take-le n (drop (k * n) (put xs 0 l)) (simp (length-drop, length_put xs 0 l room) (omega arith)) in
      ext_get_or nan _ _ (e ∙ sym (length_tab n _)) λ i b.
      let a : i < n = omega arith in
      let q : 0 + (k * n + i) ≡ k * n + i = omega arith in
      get_d_image n k i (put xs 0 l) nan a
      ∙ ap (λ (j : ℕ). get_or (put xs 0 l) j nan) (sym q)
      ∙ get_d_put_in xs 0 l (k * n + i) nan room (omega (arith, length_floats m))
      ∙ get_d_tab m (k * n + i) _ nan (omega arith)
      ∙ ap (λ (j : ℕ). float_of (stored_at words j)) (sym (add_assoc from (k * n) i))
      ∙ sym (get_d_tab n i _ nan a)

-- three images one after another
module _ {A : Type 0} (n : ℕ) (xs : List A) where
  pub three_images : take (3 * n) (drop (3 * n) xs) ≡ image n 3 xs ++ (image n 4 xs ++ image n 5 xs)
  unfolding image
  three_images =
      let e : 3 * n ≡ n + (n + n) = omega arith in
      let q : 3 * n + n ≡ 4 * n = omega arith in
      let r : 4 * n + n ≡ 5 * n = omega arith in
      ap (λ (m : ℕ). take m (drop (3 * n) xs)) e ∙ rw (take-add, drop-drop, q, take-add, drop-drop, r)
