-- j0, a pixel and a row at a time, from the row `first` on: the gradients are read before image 5, which is written, so they are still what stood there at first. Assumes nothing.
use Prim.Native.Nat.{ℕ, ◌+◌, ◌-◌, ◌*◌, ◌≤◌, ◌<◌}
use mathlib.Core.Path.{◌≡◌, sym, ap, ap₂, ◌∙◌}
use mathlib.Core.List.{List}
use native.Mathlib.Nat.{add-mul, mul_comm}
use native.Mathlib.Omega.{arith}
use lib.ListN.{length, get_or, set}
use lib.Ieee.{Float, nan, neg}
use Rattle.lists.specs.Lists.{tab, grid, put, image}
use Rattle.lists.proofs.Grow.{tab_ext, length_grid}
use Rattle.lists.proofs.Fill.{fill_more, fill_before, rows_none, rows_before, rows_more}
use Rattle.floats.specs.F32.{◌⊕◌, ◌⊖◌, ◌⊗◌, f32}
use Rattle.lists.proofs.Images.{get_d_place}
use Rattle.rows.specs.Between.{rows_in}
use Rattle.rows.proofs.InPlace.{rows_made}
use Rattle.series.specs.Series.{cos_of, sin_of}
use Rattle.sums.specs.Sums.{steep_of}

-- gx * (-(x * st) - yc) + gy * (x * ct - ys)
abbrev pub slope : Float → Float → Float → Float → Float → Float → Float → Float
slope ct st yc ys x gx gy = gx ⊗ (neg (x ⊗ st) ⊖ yc) ⊕ gy ⊗ (x ⊗ ct ⊖ ys)

-- ---- a row from `row` on
module _ (xs : List Float) (n row : ℕ) (ct st yc ys : Float) where
  abbrev pub row_rule : ℕ → Float
  row_rule x = slope ct st yc ys (f32 x) (get_or xs (row + x) nan) (get_or xs (n + row + x) nan)

  pub pixel_more : (w : ℕ) → (row + w ≤ n) × (6 * n ≤ length xs) → (x : ℕ) → x < w → (p : List Float) → p ≡ put xs (5 * n + row) (tab x row_rule) → (xf : Float) → xf ≡ f32 x →
      set p (5 * n + row + x) (slope ct st yc ys xf (get_or p (row + x) nan) (get_or p (n + row + x) nan)) ≡ put xs (5 * n + row) (tab (x + 1) row_rule)
  pixel_more w fits x few p e xf ex =
      let to = 5 * n + row in
      let read : (k : ℕ) → k < to → get_or p k nan ≡ get_or xs k nan = λ k h. ap (λ (z : List Float). get_or z k nan) e ∙ fill_before xs to row_rule x (omega arith) k nan h in
      let v = slope ct st yc ys xf (get_or p (row + x) nan) (get_or p (n + row + x) nan) in
      ap (λ (z : List Float). set z (to + x) v) e
      ∙ fill_more xs to row_rule x v (omega arith) (rw (ex, read (row + x) (omega arith), read (n + row + x) (omega arith)))

-- ---- the rows
module _ (xs : List Float) (n w : ℕ) (ct st : Float) where
  abbrev pub steep_rule : ℕ → ℕ → Float
  steep_rule x y = slope ct st (f32 y ⊗ ct) (f32 y ⊗ st) (f32 x) (get_or (image n 0 xs) (y * w + x) nan) (get_or (image n 1 xs) (y * w + x) nan)

  -- the rows from `first` on
  abbrev pub rows_rule : ℕ → ℕ → ℕ → Float
  rows_rule first x k = steep_rule x (first + k)

  pub row_none : (first : ℕ) → xs ≡ put xs (5 * n + first * w) (grid w (first - first) (rows_rule first))
  row_none first =
      let none : 0 ≡ first - first = omega arith in
      rows_none xs (5 * n + first * w) w (rows_rule first) ∙ ap (λ (k : ℕ). put xs (5 * n + first * w) (grid w k (rows_rule first))) none

  pub row_more : (first y : ℕ) → first ≤ y → (y * w + w ≤ n) × (6 * n ≤ length xs) → (p q : List Float) → p ≡ put xs (5 * n + first * w) (grid w (y - first) (rows_rule first)) →
      (yf : Float) → yf ≡ f32 y →
      q ≡ put p (5 * n + y * w) (tab w (λ x. slope ct st (yf ⊗ ct) (yf ⊗ st) (f32 x) (get_or p (y * w + x) nan) (get_or p (n + y * w + x) nan))) →
      q ≡ put xs (5 * n + first * w) (grid w (y + 1 - first) (rows_rule first))
  row_more first y low fits p q e yf ey s =
      let a = 5 * n + first * w in
      let k = y - first in
      let row : first + k ≡ y = omega arith in
      let at : y * w ≡ first * w + k * w = sym (ap (λ (z : ℕ). z * w) row) ∙ add-mul first k w in
      let here : 5 * n + y * w ≡ a + k * w = omega arith in
      let next : k + 1 ≡ y + 1 - first = omega arith in
      let read : (k i a : ℕ) → i < n → a ≡ k * n + i → a < 5 * n → get_or p a nan ≡ get_or (image n k xs) i nan =
      λ k i a l q h. ap (λ (z : List Float). get_or z a nan) e ∙ rows_before xs (5 * n + first * w) w (rows_rule first) (y - first) (omega arith) a nan (omega arith) ∙ get_d_place n k i a xs nan l q in
      s
      ∙ ap (put p (5 * n + y * w)) (tab_ext w _ (λ x. steep_rule x y) (λ x h.
      let i = y * w + x in
      let a : get_or p i nan ≡ get_or (image n 0 xs) i nan = read 0 i i (omega arith) (omega arith) (omega arith) in
      let b : get_or p (n + y * w + x) nan ≡ get_or (image n 1 xs) i nan = read 1 i _ (omega arith) (omega arith) (omega arith) in
      rw (ey, a, b)))
      ∙ ap₂ (λ (z : List Float) (j : ℕ). put z j (tab w (λ x. steep_rule x y))) e here
      ∙ ap (λ (j : ℕ). put (put xs a (grid w k (rows_rule first))) (a + k * w) (tab w (λ x. steep_rule x j))) (sym row)
      ∙ rows_more xs a w (rows_rule first) k (omega arith)
      ∙ ap (λ (j : ℕ). put xs a (grid w j (rows_rule first))) next

  pub steep_end : (first last h : ℕ) → first ≤ last → last < h → (theta : Float) → ct ≡ cos_of theta → st ≡ sin_of theta → (p : List Float) → p ≡ put xs (5 * n + first * w) (grid w (last + 1 - first) (rows_rule first)) →
      p ≡ put xs (5 * n + first * w) (rows_in first last w (steep_of w h theta (image n 0 xs) (image n 1 xs)))
  unfolding steep_of
  steep_end first last h order inside theta ec es p e = rw (ec, es) at (e ∙ ap (put xs (5 * n + first * w)) (rows_made first last w h order inside steep_rule))

pub length_steep : (w h : ℕ) (theta : Float) (gx gy : List Float) → length (steep_of w h theta gx gy) ≡ w * h
unfolding steep_of
length_steep w h theta gx gy = length_grid w h _ ∙ mul_comm h w
