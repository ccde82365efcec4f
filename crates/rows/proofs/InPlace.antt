-- Some rows of an image: of one that is made row by row, and put in their place among several images. Assumes nothing.
use Prim.Native.Nat.{ℕ, ◌+◌, ◌-◌, ◌*◌, ◌≤◌, ◌<◌}
use mathlib.Core.Path.{◌≡◌, sym, ap, ◌∙◌}
use mathlib.Core.List.{List, ◌++◌}
use native.Mathlib.Nat.{add-mul, mul_comm, mul-le-mul_right}
use native.Mathlib.Omega.{arith}
use lib.ListN.{length, take, drop, get_or, length-take, length-drop}
use lib.Seq.{take_at, drop_at, get_or-take, get_or-drop}
use Rattle.lists.specs.Lists.{tab, grow, grid, put, image}
use Rattle.lists.proofs.Grow.{grow_add, grid_is, length_grow, length_tab}
use Rattle.lists.proofs.Put.{get_d_put_in}
use Rattle.lists.proofs.Images.{get_d_image}
use Rattle.rows.specs.Between.{rows_in}

-- the rows from first to last of h rows of w numbers each
module _ (first last w h : ℕ) (order : first ≤ last) (inside : last < h) where
  abbrev many : ℕ
  many = last + 1 - first

  -- of rows that are made by a rule
  pub rows_made : {A : Type 0} (g : ℕ → ℕ → A) → grid w many (λ x k. g x (first + k)) ≡ rows_in first last w (grid w h g)
  unfolding rows_in
  rows_made {A} g =
      let p : ℕ → List A = λ y. tab w (λ x. g x y) in
      let p' : ℕ → List A = λ k. p (first + k) in
      let rest = h - (last + 1) in
      let a : List A = grow p first in
      let b : List A = grow p' many in
      let c : List A = grow (λ k. p' (many + k)) rest in
      let size : (q : ℕ → List A) (n : ℕ) → ((i : ℕ) → length (q i) ≡ w) → length (grow q n) ≡ n * w = λ q n e. length_grow q w e n in
      let split : grid w h g ≡ a ++ (b ++ c) =
      grid_is w h g ∙ ap (grow p) (omega arith) ∙ grow_add p first (many + rest) ∙ ap (λ (z : List A). a ++ z) (grow_add p' many rest) in
      let from : drop (first * w) (grid w h g) ≡ b ++ c =
      ap (drop (first * w)) split ∙ drop_at a (b ++ c) (first * w) (size p first (λ i. length_tab w _)) in
      sym (ap (take (many * w)) from ∙ take_at b c (many * w) (size p' many (λ i. length_tab w _)) ∙ sym (grid_is w many (λ x k. g x (first + k))))

  pub rows_within : first * w + many * w ≤ w * h
  rows_within =
      let e : first + many ≡ last + 1 = omega arith in
      omega (arith, add-mul first many w, ap (λ (z : ℕ). z * w) e, mul-le-mul_right {m = last + 1} {n = h} w (omega arith), mul_comm h w)

  module _ {A : Type 0} (J : List A) (size : length J ≡ w * h) where
    pub length_rows_in : length (rows_in first last w J) ≡ many * w
    unfolding rows_in
    length_rows_in = simp (length-take, length-drop) (omega (arith, rows_within, size))

    -- a number of these rows, once they stand in the image k of some
    pub get_d_rows_in : (k : ℕ) (xs : List A) (d : A) → k * (w * h) + w * h ≤ length xs → (i : ℕ) → first * w ≤ i → i < (last + 1) * w →
        get_or (image (w * h) k (put xs (k * (w * h) + first * w) (rows_in first last w J))) i d ≡ get_or J i d
    unfolding rows_in
    get_d_rows_in k xs d fits i low high =
        let n = w * h in
        let e : first + many ≡ last + 1 = omega arith in
        let m : first * w + many * w ≡ (last + 1) * w = sym (add-mul first many w) ∙ ap (λ (z : ℕ). z * w) e in
        let x = i - first * w in
        let l = length_rows_in in
        let few : x < many * w = omega arith in
        let here : k * n + i ≡ k * n + first * w + x = omega arith in
        let there : first * w + x ≡ i = omega arith in
        get_d_image n k i _ d (omega (arith, rows_within))
        ∙ ap (λ (j : ℕ). get_or (put xs (k * n + first * w) (take (many * w) (drop (first * w) J))) j d) here
        ∙ get_d_put_in xs (k * n + first * w) (take (many * w) (drop (first * w) J)) x d (omega (arith, rows_within, l)) (omega (arith, l))
        ∙ get_or-take (many * w) (drop (first * w) J) x d few
        ∙ get_or-drop (first * w) J x d
        ∙ ap (λ (j : ℕ). get_or J j d) there
