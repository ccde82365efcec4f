-- The statistics depend on which pixels are marked, and on nothing else of the marks; and so does the comparison at marked pixels. Assumes nothing.
use Prim.Native.Nat.{ℕ, ◌+◌, ◌≤◌, ◌<◌}
use mathlib.Core.Path.{◌≡◌, refl, sym, ap, ap₂, ◌∙◌}
use mathlib.Core.Bool.{Bool, true}
use mathlib.Core.List.{List}
use native.Mathlib.Omega.{arith}
use lib.ListN.{length, take, drop, get_or, length-take, length-drop}
use lib.Seq.{get_or-take, get_or-drop}
use lib.Ieee.{Float, nan}
use Rattle.lists.specs.Marked.{pick}
use Rattle.lists.proofs.Cases.{pick_agree}
use Rattle.lists.proofs.Fold.{over_agree}
use Rattle.lists.proofs.Grow.{tab_ext}
use Rattle.marks.specs.Marks.{on, count_on}
use Rattle.floats.specs.F32.{◌⊖◌, ◌⊘◌, f32, 0f}
use Rattle.floats.proofs.Sums.{sum_agree}
use Rattle.stats.specs.Stats.{mean_of, centred_of, product_of, stats_of}
use Rattle.words.specs.Words.{stored_at, has_bits, all_below}
use Rattle.words.proofs.Agree.{all_agree}
use Rattle.vectors.specs.Passes.{marked_agree}

module _ (ms ns : List ℕ) (n : ℕ) (same : (i : ℕ) → i < n → on ms i ≡ on ns i) where
  pub count_same : count_on ms n ≡ count_on ns n
  unfolding count_on
  count_same = over_agree (on ms) (on ns) (λ k i. k + 1) (λ k i. k + 1) 0 n same (λ t i l m. refl)

  mean_same : (xs : List Float) → mean_of ms n xs ≡ mean_of ns n xs
  unfolding mean_of
  mean_same xs = ap₂ (λ (s : Float) (k : ℕ). s ⊘ f32 k) (sum_agree (on ms) (on ns) _ _ n same (λ i l m. refl)) count_same

  pub centred_same : (xs : List Float) → centred_of ms n xs ≡ centred_of ns n xs
  unfolding centred_of
  centred_same xs = tab_ext n _ _ (λ i l. ap₂ (λ (b : Bool) (mean : Float). pick b (get_or xs i nan ⊖ mean) 0f) (same i l) (mean_same xs))

  product_same : (xs ys : List Float) → product_of ms n xs ys ≡ product_of ns n xs ys
  unfolding product_of
  product_same xs ys = sum_agree (on ms) (on ns) _ _ n same (λ i l m. refl)

  pub stats_same : (xs ys : List Float) → stats_of ms n xs ys ≡ stats_of ns n xs ys
  unfolding stats_of
  stats_same xs ys =
      let a = product_same xs xs in
      let b = product_same ys ys in
      let d = product_same xs ys in
      cc

  -- numbers that agree where they are marked
  pub marked_same : (words : List ℕ) (from : ℕ) (xs ys : List Float) → length xs ≡ n → length ys ≡ n → ((i : ℕ) → i < n → on ms i ≡ true → get_or xs i nan ≡ get_or ys i nan) →
      marked_agree ms words from xs ≡ marked_agree ns words from ys
  unfolding marked_agree
  marked_same words from xs ys p q agree =
      ap (λ (k : ℕ). all_below k (λ i. pick (on ms i) (has_bits (get_or xs i nan) (stored_at words (from + i))) true)) p
      ∙ all_agree n _ _ (λ i l. pick_agree (on ms i) (on ns i) _ _ true true (same i l) (λ m. ap (λ (x : Float). has_bits x (stored_at words (from + i))) (agree i l m)) (λ m. refl))
      ∙ ap (λ (k : ℕ). all_below k (λ i. pick (on ns i) (has_bits (get_or ys i nan) (stored_at words (from + i))) true)) (sym q)

-- the end of the loop that compares: the n numbers from `at` on
pub marked_run : (ms words : List ℕ) (from n : ℕ) (xs : List Float) (at : ℕ) → at + n ≤ length xs →
    all_below n (λ i. pick (on ms i) (has_bits (get_or xs (at + i) nan) (stored_at words (from + i))) true) ≡ marked_agree ms words from (take n (drop at xs))
unfolding marked_agree
marked_run ms words from n xs at h =
    let e : length (take n (drop at xs)) ≡ n = simp (length-take, length-drop) (omega arith) in
    all_agree n _ _ (λ i l. ap (λ (x : Float). pick (on ms i) (has_bits x (stored_at words (from + i))) true) (sym (get_or-take n (drop at xs) i nan l ∙ get_or-drop at xs i nan)))
    ∙ ap (λ (k : ℕ). all_below k (λ i. pick (on ms i) (has_bits (get_or (take n (drop at xs)) i nan) (stored_at words (from + i))) true)) (sym e)
