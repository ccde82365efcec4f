-- A part of the work that was lent from the image j on, and has come back with a frame in its front or with a blur's two passes. Assumes nothing.
use Prim.Native.Nat.{ℕ, ◌+◌, ◌*◌, ◌≤◌}
use mathlib.Core.Path.{◌≡◌, ap, ◌∙◌}
use mathlib.Core.List.{List, ◌++◌}
use native.Mathlib.Nat.{add-zero}
use native.Mathlib.Omega.{arith}
use lib.ListN.{length, take, drop, length-take, length-drop}
use Rattle.lists.specs.Lists.{put, image, set_image}
use Rattle.lists.proofs.Images.{part_put, part_image, length_set_image, mid_image, mid_self}

module _ {A : Type 0} (n j k : ℕ) (xs : List A) (fits : j * n + k ≤ length xs) where
  abbrev part : List A
  part = take k (drop (j * n) xs)

  abbrev whole : List A → List A
  whole ys = take (j * n) xs ++ (ys ++ drop k (drop (j * n) xs))

  pub load_back : (ys l : List A) → length l ≡ n → n ≤ k → ys ≡ put part 0 l → whole ys ≡ set_image n j l xs
  unfolding set_image
  load_back ys l e h q = ap whole q ∙ part_put xs (j * n) k 0 l (omega arith) fits ∙ ap (λ (m : ℕ). put xs m l) (add-zero (j * n))

  -- the first pass F goes from the part's first image to its second, the second pass G from there to its third
  pub blur_back : (F G : List A → List A) → ((l : List A) → length (F l) ≡ n) → ((l : List A) → length (G l) ≡ n) → 3 * n ≤ k →
      (ys : List A) → ys ≡ set_image n 2 (G (F (image n 0 part))) (set_image n 1 (F (image n 0 part)) part) →
      whole ys ≡ set_image n (j + 2) (G (F (image n j xs))) (set_image n (j + 1) (F (image n j xs)) xs)
  blur_back F G f g h ys q =
      let r = F (image n j xs) in
      let i : image n 0 part ≡ image n j xs = part_image n j 0 k xs (omega arith) ∙ ap (λ (m : ℕ). image n m xs) (add-zero j) in
      let one : length part ≡ k = simp (length-take, length-drop) (omega arith) in
      let two : length (set_image n 1 r part) ≡ k = length_set_image n 1 part r (f _) (omega arith) ∙ one in
      ap whole (q ∙ ap (λ (s : List A). set_image n 2 (G (F s)) (set_image n 1 (F s) part)) i)
      ∙ mid_image n j 2 k xs (set_image n 1 r part) (G r) (g r) (omega arith) (omega arith)
      ∙ ap (set_image n (j + 2) (G r)) (mid_image n j 1 k xs part r (f _) (omega arith) (omega arith) ∙ ap (set_image n (j + 1) r) (mid_self xs (j * n) k))
