-- How large the statistics are, over at most 2 ^ 24 pixels. A sum over the marked pixels is bounded by their count, and the mean is divided by it: so the mean of numbers
-- within 2 ^ k is within 2 ^ k, and a centred number within 2 ^ (k + 1). Assumes nothing.
use mathlib.Core.Path.{◌≡◌}
use mathlib.Core.Bool.{true, false}
use mathlib.Core.List.{List}
use Prim.Native.Nat.{ℕ, ◌+◌, ◌*◌, ◌^◌, ◌≤◌, ◌<◌}
use native.Mathlib.Nat.{le_trans, mul_comm, mul-le-mul_right}
use native.Mathlib.Omega.{arith}
use lib.Dec.{T, lit<, lit≤}
use lib.Pow.{pow-add}
use lib.ListN.{get_or}
use lib.Ieee.{Float, nan, binary32, fits}
use Rattle.lists.specs.Marked.{pick, count_marked}
use Rattle.lists.proofs.Cases.{pick_true}
use Rattle.lists.proofs.Grow.{get_d_tab}
use Rattle.lists.proofs.Fold.{counted_le, counted_some}
use Rattle.floats.specs.Bound.{Within, Bounded}
use Rattle.floats.specs.F32.{◌⊖◌, ◌⊗◌, ◌⊘◌, f32, 0f}
use Rattle.floats.specs.Sums.{sum_over}
use Rattle.floats.proofs.Within.{within_more, sub_within, div_within, mul_within, rep_pow, rep_up}
use Rattle.floats.proofs.Exactly.{whole_is}
use Rattle.floats.proofs.FromZero.{FromZero, square_from_zero, sum_from_zero}
use Rattle.floats.proofs.Sums.{sum_fits, sum_within_count}
use Rattle.floats.proofs.Values.{value_at_least}
use Rattle.root.specs.Root.{sqrt_of}
use Rattle.root.proofs.Bounds.{sqrt_from_zero}
use Rattle.marks.specs.Marks.{on, count_on}
use Rattle.marks.proofs.Count.{count_le}
use Rattle.stats.specs.Stats.{mean_of, centred_of, product_of, stats_of, centered_stats}
use Rattle.stats.specs.declared.Stats.{Stats}

-- a sum of c terms of size at most 2 ^ k, over the whole number d
quotient_within : (k c d : ℕ) → k ≤ 103 → (s : Float) → Within s (c * 2 ^ k) 1 → 0 < d → d ≤ 2 ^ 24 → c ≤ d → Within (s ⊘ f32 d) (2 ^ k) 1
quotient_within k c d K s h some few most =
    div_within binary32 s (f32 d) (c * 2 ^ k) 1 d 1 (2 ^ k) 1 (lit< tt) some (rep_pow k K) (omega (arith, mul-le-mul_right (2 ^ k) most, mul_comm d (2 ^ k))) h (value_at_least (f32 d) false d 1 (whole_is d few))

module _ (ms : List ℕ) (n : ℕ) (N : n ≤ 2 ^ 24) where
  -- each marked number is within 2 ^ k
  abbrev AtMarks : List Float → ℕ → Type 0
  AtMarks xs k = (i : ℕ) → i < n → on ms i ≡ true → Within (get_or xs i nan) (2 ^ k) 1

  -- ---- centred numbers
  module _ (k : ℕ) (K : k ≤ 100) (xs : List Float) (all : Bounded xs n k) where
    total_within : Within (sum_over (on ms) (λ i. get_or xs i nan) n) (count_on ms n * 2 ^ k) 1
    unfolding count_on
    total_within = sum_within_count k (omega arith) (on ms) (λ i. get_or xs i nan) n N (λ i l m. all i l)

    mean_within : 0 < count_on ms n → Within (mean_of ms n xs) (2 ^ k) 1
    unfolding mean_of
    mean_within some = let few : count_on ms n ≤ 2 ^ 24 = le_trans (count_le ms n) N in quotient_within k (count_on ms n) _ (omega arith) _ total_within (omega arith) (omega arith) (omega arith)

    pub centred_within : AtMarks (centred_of ms n xs) (k + 1)
    unfolding centred_of count_on
    centred_within i h m =
        let e : 2 * 2 ^ k ≡ 2 ^ k + 2 ^ k = omega arith in
        rw (get_d_tab n i (λ i. pick (on ms i) (get_or xs i nan ⊖ mean_of ms n xs) 0f) nan h, pick_true (on ms i) (get_or xs i nan ⊖ mean_of ms n xs) 0f m, pow-add 2 k 1, mul_comm (2 ^ k) 2, e)
        (sub_within binary32 (get_or xs i nan) (mean_of ms n xs) (2 ^ k) (2 ^ k) 1 (rw e at (rep_up 2 k (lit≤ tt) (omega arith))) (all i h) (mean_within (counted_some (on ms) n i h m)))

  -- ---- sums of products
  terms : (a : ℕ) → count_marked (on ms) n * 2 ^ a * 1 ≤ 2 ^ (24 + a) * 1
  terms a = omega (arith, pow-add 2 24 a, mul-le-mul_right (2 ^ a) (le_trans (counted_le (on ms) n) N))

  product_within : (a b : ℕ) → a + b ≤ 103 → (xs ys : List Float) → AtMarks xs a → AtMarks ys b → Within (product_of ms n xs ys) (2 ^ (24 + (a + b))) 1
  unfolding product_of
  product_within a b A xs ys p q =
      within_more (product_of ms n xs ys) (count_marked (on ms) n * 2 ^ (a + b)) 1 (2 ^ (24 + (a + b))) 1 (lit< tt)
      (sum_within_count (a + b) A (on ms) (λ i. get_or xs i nan ⊗ get_or ys i nan) n N
      (λ i l m. mul_within binary32 (get_or xs i nan) (get_or ys i nan) (2 ^ a) 1 (2 ^ b) 1 (2 ^ (a + b)) 1 (lit< tt) (lit< tt) (rep_pow (a + b) A) (omega (arith, pow-add 2 a b)) (p i l m) (q i l m)))
      (terms (a + b))

  squares_from_zero : (a : ℕ) → a ≤ 51 → (xs : List Float) → AtMarks xs a → FromZero (product_of ms n xs xs) (2 ^ (24 + (a + a))) 1
  unfolding product_of
  squares_from_zero a A xs p =
      let s = sum_from_zero (a + a) (omega arith) (on ms) (λ i. get_or xs i nan ⊗ get_or xs i nan) n N (λ i l m. square_from_zero a A (get_or xs i nan) (p i l m)) in
      (s.0, within_more (product_of ms n xs xs) (count_marked (on ms) n * 2 ^ (a + a)) 1 (2 ^ (24 + (a + a))) 1 (lit< tt) s.1 (terms (a + a)))

  product_fits : (xs ys : List Float) → T (fits binary32 (product_of ms n xs ys))
  unfolding product_of
  product_fits xs ys = sum_fits (on ms) (λ i. get_or xs i nan ⊗ get_or ys i nan) n

  -- ---- THE BOUNDS: the norm of numbers within 2 ^ k, and the correlation's sum
  norm_from_zero : (k : ℕ) → k ≤ 50 → (xs : List Float) → Bounded xs n k → let zm = centred_of ms n xs in FromZero (sqrt_of (product_of ms n zm zm)) (2 ^ (k + 14)) 1
  norm_from_zero k K xs all =
      let zm = centred_of ms n xs in
      let e : 24 + (k + 1 + (k + 1)) ≡ k + 13 + (k + 13) = omega arith in
      let f : k + 13 + 1 ≡ k + 14 = omega arith in
      rw f at (sqrt_from_zero (product_of ms n zm zm) (product_fits zm zm) (k + 13) (rw e at (squares_from_zero (k + 1) (omega arith) zm (centred_within k (omega arith) xs all))))

  module _ (template warped : List Float) where
    abbrev s : Stats
    s = centered_stats ms n template warped

    pub tmp_norm_lem : (a : ℕ) → a ≤ 50 → Bounded template n a → FromZero s.tmp_norm (2 ^ (a + 14)) 1
    unfolding stats_of
    tmp_norm_lem a A h = norm_from_zero a A template h

    pub img_norm_lem : (b : ℕ) → b ≤ 50 → Bounded warped n b → FromZero s.img_norm (2 ^ (b + 14)) 1
    unfolding stats_of
    img_norm_lem b B h = norm_from_zero b B warped h

    pub corr_within : (a b : ℕ) → a + b ≤ 100 → Bounded template n a → Bounded warped n b → Within s.corr (2 ^ (24 + (a + 1 + (b + 1)))) 1
    unfolding stats_of
    corr_within a b few h k = product_within (a + 1) (b + 1) (omega arith) (centred_of ms n template) (centred_of ms n warped) (centred_within a (omega arith) template h) (centred_within b (omega arith) warped k)
