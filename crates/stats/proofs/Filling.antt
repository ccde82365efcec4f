-- What the loop of `centred_stretch` holds: the places of the stretch that it has passed hold the centred numbers, in the images 4 and 5. And what the part is
-- like when the stretch is done. Assumes nothing.
use Prim.Native.Nat.{ℕ, ◌+◌, ◌-◌, ◌*◌, ◌≤◌, ◌<◌}
use mathlib.Core.Path.{◌≡◌, ap, ap₂, ◌∙◌}
use mathlib.Core.List.{List, [], ◌∷◌}
use native.Mathlib.Omega.{arith}
use lib.ListN.{length, take, drop, get_or, set}
use lib.Ieee.{Float, nan}
use Rattle.lists.specs.Lists.{tab, put}
use Rattle.lists.specs.Marked.{over_range}
use Rattle.lists.proofs.Grow.{length_tab}
use Rattle.lists.proofs.Put.{drop_put, get_d_take_of}
use Rattle.lists.proofs.Fill.{length_fill, fill_before, fill_after, get_d_fill, fills, Spaced, fills_none, take_fills, fills_more}
use Rattle.lists.proofs.Fold.{range_turn}
use Rattle.floats.specs.F32.{◌⊕◌, ◌⊖◌, ◌⊗◌}
use Rattle.stats.specs.declared.Means.{Means}
use Rattle.stats.specs.declared.Products.{Products}

module _ (n : ℕ) (mean : Means) (xs : List Float) where
  -- the centred template and the centred image at the place k
  abbrev pub t_at : ℕ → Float
  t_at k = get_or xs (3 * n + k) nan ⊖ mean.0

  abbrev pub i_at : ℕ → Float
  i_at k = get_or xs k nan ⊖ mean.1

  -- the three sums go on at the place k
  abbrev pub add_three : Products → ℕ → Products
  add_three s k = (s.0 ⊕ t_at k ⊗ t_at k, s.1 ⊕ i_at k ⊗ i_at k, s.2 ⊕ t_at k ⊗ i_at k)

-- lists that agree in the first four images give the same centred numbers
module _ (n : ℕ) (mean : Means) (xs ys : List Float) (same : take (4 * n) ys ≡ take (4 * n) xs) (k : ℕ) (h : k < n) where
  pub t_same : t_at n mean ys k ≡ t_at n mean xs k
  t_same = ap (λ (x : Float). x ⊖ mean.0) (get_d_take_of (4 * n) ys xs (3 * n + k) nan (omega arith) same)

  pub i_same : i_at n mean ys k ≡ i_at n mean xs k
  i_same = ap (λ (x : Float). x ⊖ mean.1) (get_d_take_of (4 * n) ys xs k nan (omega arith) same)

  pub three_same : (s : Products) → add_three n mean ys s k ≡ add_three n mean xs s k
  three_same s = ap₂ (λ (x y : Float). (s.0 ⊕ x ⊗ x, s.1 ⊕ y ⊗ y, s.2 ⊕ x ⊗ y)) t_same i_same

-- a stretch of an image that starts at b: the numbers before the stretch are as they were, its own are those of the rule
pub record Through (from to b : ℕ) (f : ℕ → Float) (xs ys : List Float) : Type 0 where
  pub kept : (k : ℕ) → k < from → get_or ys (b + k) nan ≡ get_or xs (b + k) nan
  pub new : (k : ℕ) → from ≤ k → k < to → get_or ys (b + k) nan ≡ f k

through : (from to b : ℕ) (f : ℕ → Float) (xs : List Float) → from ≤ to → b + to ≤ length xs → Through from to b f xs (put xs (b + from) (tab (to - from) (λ k. f (from + k))))
through from to b f xs order fits = record {
  kept = λ k h. fill_before xs (b + from) (λ k. f (from + k)) (to - from) (omega arith) (b + k) nan (omega arith);
  new = λ k h l.
      let p : b + k ≡ b + from + (k - from) = omega arith in
      let q : from + (k - from) ≡ k = omega arith in
      ap (λ (a : ℕ). get_or (put xs (b + from) (tab (to - from) (λ k. f (from + k)))) a nan) p
      ∙ get_d_fill xs (b + from) (to - from) (λ k. f (from + k)) (omega arith) (k - from) nan (omega arith)
      ∙ ap f q;
}

module _ (n from : ℕ) (mean : Means) (xs : List Float) where
  abbrev pub targets : List (ℕ × (ℕ → Float))
  targets = (4 * n + from, λ k. t_at n mean xs (from + k)) ∷ (5 * n + from, λ k. i_at n mean xs (from + k)) ∷ []

  -- the part with the first j places of the stretch centred
  unfoldable pub filled : ℕ → List Float
  filled j = fills xs targets j

  pub filled_none : xs ≡ filled (from - from)
  unfolding filled
  filled_none = fills_none xs targets ∙ ap (fills xs targets) (nil from)
    where
      nil : (a : ℕ) → 0 ≡ a - a
      nil a = omega arith

  module _ (to : ℕ) (order : from ≤ to) (few : to ≤ n) (fits : 6 * n ≤ length xs) (i : ℕ) (low : from ≤ i) where
    spaced : Spaced targets (to - from) (4 * n) (length xs)
    spaced = omega arith

    pub filled_take : i ≤ to → take (4 * n) (filled (i - from)) ≡ take (4 * n) xs
    unfolding filled
    filled_take high = take_fills (to - from) (i - from) xs targets (4 * n) spaced (omega arith) (4 * n) (omega arith)

    -- one more place
    module _ (high : i < to) (part : List Float) (so_far : part ≡ filled (i - from)) where
      same : take (4 * n) part ≡ take (4 * n) xs
      same = ap (take (4 * n)) so_far ∙ filled_take (omega arith)

      pub filled_more : set (set part (4 * n + i) (t_at n mean part i)) (5 * n + i) (i_at n mean part i) ≡ filled (i + 1 - from)
      unfolding filled
      filled_more =
          let j = i - from in
          let p : i ≡ from + j = omega arith in
          let q : 4 * n + i ≡ 4 * n + from + j = omega arith in
          let r : 5 * n + i ≡ 5 * n + from + j = omega arith in
          let e : j + 1 ≡ i + 1 - from = omega arith in
          ap₂ (λ (x y : Float). set (set part (4 * n + i) x) (5 * n + i) y) (t_same n mean xs part same i (omega arith)) (i_same n mean xs part same i (omega arith))
          ∙ ap (λ (z : List Float). set (set z (4 * n + i) (t_at n mean xs i)) (5 * n + i) (i_at n mean xs i)) so_far
          ∙ ap₂ (λ (a b : ℕ). set (set (fills xs targets j) a (t_at n mean xs i)) b (i_at n mean xs i)) q r
          ∙ ap (λ (k : ℕ). set (set (fills xs targets j) (4 * n + from + j) (t_at n mean xs k)) (5 * n + from + j) (i_at n mean xs k)) p
          ∙ fills_more (to - from) j xs targets (4 * n) spaced (omega arith)
          ∙ ap (fills xs targets) e

      pub three_more : (s t : Products) → t ≡ over_range (add_three n mean xs) s from (i - from) → add_three n mean part t i ≡ over_range (add_three n mean xs) s from (i + 1 - from)
      three_more s t e = three_same n mean xs part same i (omega arith) t ∙ range_turn (add_three n mean xs) s from i t low e

  -- the whole stretch
  module _ (to : ℕ) (order : from ≤ to) (few : to ≤ n) (fits : 6 * n ≤ length xs) where
    abbrev len : ℕ
    len = to - from

    abbrev t_run : ℕ → Float
    t_run k = t_at n mean xs (from + k)

    abbrev i_run : ℕ → Float
    i_run k = i_at n mean xs (from + k)

    abbrev ys : List Float
    ys = put xs (4 * n + from) (tab len t_run)

    same_size : length ys ≡ length xs
    same_size = length_fill xs (4 * n + from) t_run len (omega arith)

    pub all_size : length (filled len) ≡ length xs
    unfolding filled
    all_size = length_fill ys (5 * n + from) i_run len (omega (arith, same_size)) ∙ same_size

    pub all_drop : drop (6 * n) (filled len) ≡ drop (6 * n) xs
    unfolding filled
    all_drop =
        drop_put ys (5 * n + from) (tab len i_run) (rw length_tab (omega (arith, same_size))) (6 * n) (rw length_tab (omega arith))
        ∙ drop_put xs (4 * n + from) (tab len t_run) (rw length_tab (omega arith)) (6 * n) (rw length_tab (omega arith))

    pub t_through : Through from to (4 * n) (t_at n mean xs) xs (filled len)
    unfolding filled
    t_through =
        let t = through from to (4 * n) (t_at n mean xs) xs order (omega arith) in
        let over : (k : ℕ) → k < to → get_or (put ys (5 * n + from) (tab len i_run)) (4 * n + k) nan ≡ get_or ys (4 * n + k) nan =
        λ k h. fill_before ys (5 * n + from) i_run len (omega (arith, same_size)) (4 * n + k) nan (omega arith) in
        record { kept = λ k h. over k (omega arith) ∙ t.kept k h; new = λ k h l. over k l ∙ t.new k h l }

    pub i_through : Through from to (5 * n) (i_at n mean xs) xs (filled len)
    unfolding filled
    i_through =
        let t = through from to (5 * n) (i_at n mean xs) ys order (omega (arith, same_size)) in
        record { kept = λ k h. t.kept k h ∙ fill_after xs (4 * n + from) t_run len (omega arith) (5 * n + k) nan (omega arith); new = t.new }
