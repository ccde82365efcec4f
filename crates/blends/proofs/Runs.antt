-- Places that follow one another: how breaks are counted, and what no break means. Assumes nothing.
use mathlib.Core.Path.{◌≡◌, refl, sym, ap, ap₂, ◌∙◌}
use mathlib.Core.Bool.{Bool, true, false}
use mathlib.Core.Logic.{◌⊎◌, inl, inr}
use mathlib.Core.List.{List}
use Prim.Native.Nat.{ℕ, zero, suc, ◌+◌, ◌-◌, ◌*◌, ◌≤◌, ◌<◌}
use native.Mathlib.Nat.{add-zero, add_assoc, mul-le-mul_right, eq-or-lt_of_le}
use native.Mathlib.Omega.{arith}
use borrow.Author.Tests.{eqb-true}
use lib.Dec.{eqb}
use lib.ListN.{length, take, get_or, set}
use lib.Ieee.{Float, nan}
use Rattle.lists.specs.Lists.{tab, put, image}
use Rattle.lists.specs.Marked.{pick}
use Rattle.lists.proofs.Fill.{fill_more, fill_before}
use Rattle.lists.proofs.Grow.{tab_ext, length_tab}
use Rattle.lists.proofs.Images.{image_agree}
use Rattle.lists.proofs.Put.{take_put, length_put}
use Rattle.blends.specs.Reads.{four_at, three_rows, placed_of, breaks_of}
use Rattle.blends.proofs.Pixel.{blend_image}

module _ (spots : List ℕ) (from : ℕ) where
  -- whether the place x follows the one before
  abbrev pub next : ℕ → Bool
  next x = eqb (get_or spots x 0) (get_or spots (x - 1) 0 + 1)

  pub breaks_none : breaks_of spots from 0 ≡ 0
  unfolding breaks_of
  breaks_none = refl

  pub breaks_turn : (x : ℕ) → from < x → breaks_of spots from (x + 1 - from - 1) ≡ breaks_of spots from (x - from - 1) + pick (next x) 0 1
  unfolding breaks_of
  breaks_turn x h =
      let m = x - from - 1 in
      let e : x + 1 - from - 1 ≡ suc m = omega arith in
      let here : from + m + 1 ≡ x = omega arith in
      let before : from + m ≡ x - 1 = omega arith in
      ap (breaks_of spots from) e ∙ rw (here, before)

  pub breaks_le : (k : ℕ) → breaks_of spots from k ≤ k
  unfolding breaks_of pick
  breaks_le zero = omega arith
  breaks_le (suc k) = omega (arith, breaks_le k, few (eqb (get_or spots (from + k + 1) 0) (get_or spots (from + k) 0 + 1)))
    where
      few : (b : Bool) → pick b 0 1 ≤ 1
      few true = omega arith
      few false = omega arith

  -- where there is no break, each place follows from the first
  pub run_is : (k : ℕ) → breaks_of spots from k ≡ 0 → (x : ℕ) → x ≤ k → get_or spots (from + x) 0 ≡ get_or spots from 0 + x
  unfolding breaks_of pick
  run_is zero e x h =
      let z : x ≡ 0 = omega arith in
      rw (z, add-zero from, add-zero (get_or spots from 0))
  run_is (suc k) e x h = by (λ q i l. run_is k q i l) (eq-or-lt_of_le h) (eqb (get_or spots (from + k + 1) 0) (get_or spots (from + k) 0 + 1)) refl
    where
      by : (breaks_of spots from k ≡ 0 → (i : ℕ) → i ≤ k → get_or spots (from + i) 0 ≡ get_or spots from 0 + i) → (x ≡ suc k) ⊎ (x < suc k) →
          (b : Bool) → eqb (get_or spots (from + k + 1) 0) (get_or spots (from + k) 0 + 1) ≡ b → get_or spots (from + x) 0 ≡ get_or spots from 0 + x
      by rest o false q =
          let one : breaks_of spots from k + 1 ≡ 0 = sym (ap (λ (b : Bool). breaks_of spots from k + pick b 0 1) q) ∙ e in
          absurd (omega arith)
      by rest (inr l) true q = rest (omega (arith, e)) x (omega arith)
      by rest (inl z) true q =
          let here : from + x ≡ from + k + 1 = omega arith in
          let last = rest (omega (arith, e)) k (omega arith) in
          let step = eqb-true (get_or spots (from + k + 1) 0) (get_or spots (from + k) 0 + 1) q in
          ap (λ (i : ℕ). get_or spots i 0) here ∙ omega arith

-- ---- a run of pixels, written from `to` on
module _ (xs across down : List Float) (w i from : ℕ) where
  abbrev pub row_rule : ℕ → Float
  row_rule x = four_at xs w (i + x) (get_or across (from + x) nan) (get_or down (from + x) nan)

  -- the four pixels lie before what is written
  pub row_more : (len to : ℕ) → (i + len + w < to) × (to + len ≤ length xs) → (x : ℕ) → x < len → (p : List Float) → p ≡ put xs to (tab x row_rule) → (v : Float) →
      v ≡ four_at p w (i + x) (get_or across (from + x) nan) (get_or down (from + x) nan) → set p (to + x) v ≡ put xs to (tab (x + 1) row_rule)
  unfolding four_at
  row_more len to fits x few p e v is =
      let read : (k : ℕ) → k < to → get_or p k nan ≡ get_or xs k nan = λ k h. ap (λ (z : List Float). get_or z k nan) e ∙ fill_before xs to row_rule x (omega arith) k nan h in
      ap (λ (z : List Float). set z (to + x) v) e
      ∙ fill_more xs to row_rule x v (omega arith) (is ∙ rw (read (i + x) (omega arith), read (i + x + 1) (omega arith), read (i + x + w) (omega arith), read (i + x + w + 1) (omega arith)))

-- ---- the three images of a run, one after the other
module _ (n w at from len : ℕ) (spots : List ℕ) (across down xs : List Float) (i : ℕ) (follow : (x : ℕ) → x < len → get_or spots (from + x) 0 ≡ i + x) (inside : i + len + w < n)
    (fits : (at + from + len ≤ n) × (6 * n ≤ length xs)) where
  abbrev rule : ℕ → ℕ → Float
  rule k x = placed_of n w spots across down xs k (from + x)

  -- the row of image k, read where the sources are as at first
  row_is : (p : List Float) → take (3 * n) p ≡ take (3 * n) xs → (k j : ℕ) → k < 3 → j ≡ k * n + i → tab len (row_rule p across down w j from) ≡ tab len (rule k)
  unfolding placed_of
  row_is p same k j K e = tab_ext len _ (rule k) (λ x h.
      let a = get_or across (from + x) nan in
      let b = get_or down (from + x) nan in
      let here : j + x ≡ k * n + (i + x) = omega arith in
      let kept : image n k p ≡ image n k xs = image_agree n k (3 * n) p xs (omega (arith, mul-le-mul_right {m = suc k} {n = 3} n K)) same in
      ap (λ (z : ℕ). four_at p w z a b) here
      ∙ blend_image p n k w (i + x) a b (omega arith)
      ∙ ap₂ (λ (l : List Float) (z : ℕ). four_at l w z a b) kept (sym (follow x h)))

  -- a row written behind the sources leaves them
  row_put : (p q : List Float) (to : ℕ) (ys : List Float) → length ys ≡ len → 3 * n ≤ to → to + len ≤ length p → q ≡ put p to ys → (take (3 * n) q ≡ take (3 * n) p) × (length q ≡ length p)
  row_put p q to ys l low high e =
      (ap (take (3 * n)) e ∙ take_put p to ys (omega arith) (3 * n) low, ap length e ∙ length_put p to ys (omega arith))

  pub run_rows : (p q r : List Float) →
      p ≡ put xs (3 * n + at + from) (tab len (row_rule xs across down w i from)) →
      q ≡ put p (4 * n + at + from) (tab len (row_rule p across down w (n + i) from)) →
      r ≡ put q (5 * n + at + from) (tab len (row_rule q across down w (2 * n + i) from)) →
      r ≡ three_rows n (at + from) len rule xs
  run_rows p q r ep eq er =
      let sp = row_put xs p (3 * n + at + from) _ (length_tab len _) (omega arith) (omega arith) ep in
      let sq = row_put p q (4 * n + at + from) _ (length_tab len _) (omega arith) (omega arith) eq in
      let kp = sp.0 in
      let kq = sq.0 ∙ kp in
      let a : p ≡ put xs (3 * n + (at + from)) (tab len (rule 0)) = rw (row_is xs refl 0 i (omega arith) (omega arith), add_assoc (3 * n) at from) at ep in
      let b : q ≡ put p (4 * n + (at + from)) (tab len (rule 1)) = rw (row_is p kp 1 (n + i) (omega arith) (omega arith), add_assoc (4 * n) at from) at eq in
      let c : r ≡ put q (5 * n + (at + from)) (tab len (rule 2)) = rw (row_is q kq 2 (2 * n + i) (omega arith) (omega arith), add_assoc (5 * n) at from) at er in
      c ∙ ap (λ (z : List Float). put z (5 * n + (at + from)) (tab len (rule 2))) (b ∙ ap (λ (z : List Float). put z (4 * n + (at + from)) (tab len (rule 1))) a)
