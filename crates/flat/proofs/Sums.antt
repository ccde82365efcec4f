-- Sums of one whole number over marked pixels are exact up to 2^24, and so is their mean; less the mean nothing is left, and the norm is 0. Assumes nothing.
use Prim.Native.Nat.{ℕ, zero, suc, ◌+◌, ◌-◌, ◌*◌, ◌^◌, ◌≤◌, ◌<◌}
use mathlib.Core.Path.{◌≡◌, refl, sym, ap, ap₂, subst, ◌∙◌}
use mathlib.Core.Bool.{Bool, true, false}
use mathlib.Core.List.{List}
use native.Mathlib.Nat.{one-mul, zero-mul, mul-zero, mul-le-mul_right, le_trans}
use native.Mathlib.Numerals.{add-one}
use native.Mathlib.Omega.{arith}
use lib.Dec.{lit<, lit≤}
use lib.IntN.{pos}
use lib.Ieee.{Float, nan, binary32, round, of_int, of_bits}
use lib.Ieee.Fits.{of_int-fits}
use lib.ListN.{get_or}
use Rattle.lists.specs.Lists.{tab}
use Rattle.lists.specs.Marked.{pick}
use Rattle.lists.proofs.Cases.{pick_true}
use Rattle.lists.proofs.Grow.{get_d_tab}
use Rattle.floats.specs.F32.{◌⊕◌, ◌⊖◌, ◌⊗◌, ◌⊘◌, f32, 0f}
use Rattle.floats.specs.Sums.{sum_over}
use Rattle.floats.proofs.Exactly.{whole_is, add_whole, mul_whole, div_value, value_over, round_value}
use Rattle.floats.proofs.Signs.{sub_whole}
use Rattle.floats.proofs.Sums.{sum_none, sum_marked, sum_passed, sum_agree}
use Rattle.marks.specs.Marks.{on, count_on}
use Rattle.marks.proofs.Count.{count_none, count_marked, count_passed, count_le}
use Rattle.stats.specs.Stats.{mean_of, centred_of, product_of}

zero_is : 0f ≡ f32 0
unfolding of_bits of_int
zero_is = refl

module _ (ms : List ℕ) (v : ℕ) where
  -- one more place, marked or not
  turn : (n : ℕ) → suc n * v ≤ 2 ^ 24 → sum_over (on ms) (λ _. f32 v) n ≡ f32 (count_on ms n * v) → sum_over (on ms) (λ _. f32 v) (n + 1) ≡ f32 (count_on ms (n + 1) * v)
  turn n N e = by (on ms n) refl
    where
      many : (k : ℕ) → k ≤ n → k * v + v ≤ 2 ^ 24
      many k l = omega (arith, mul-le-mul_right v l)

      by : (b : Bool) → on ms n ≡ b → sum_over (on ms) (λ _. f32 v) (n + 1) ≡ f32 (count_on ms (n + 1) * v)
      by true m =
          sum_marked (on ms) (λ _. f32 v) n m
          ∙ ap (λ (x : Float). x ⊕ f32 v) e
          ∙ add_whole (count_on ms n * v) v (many (count_on ms n) (count_le ms n))
          ∙ ap f32 (more (count_on ms n) ∙ ap (λ (k : ℕ). k * v) (sym (count_marked ms n m)))
        where
          more : (k : ℕ) → k * v + v ≡ (k + 1) * v
          more k = omega arith
      by false m = sum_passed (on ms) (λ _. f32 v) n m ∙ e ∙ ap (λ (k : ℕ). f32 (k * v)) (sym (count_passed ms n m))

  -- so many times v
  pub sum_flat : (n : ℕ) → n * v ≤ 2 ^ 24 → sum_over (on ms) (λ _. f32 v) n ≡ f32 (count_on ms n * v)
  sum_flat zero N = sum_none (on ms) (λ _. f32 v) ∙ zero_is ∙ ap f32 (sym (zero-mul v)) ∙ sym (ap (λ (k : ℕ). f32 (k * v)) (count_none ms))
  sum_flat (suc n) N = subst (λ (j : ℕ). sum_over (on ms) (λ _. f32 v) j ≡ f32 (count_on ms j * v)) (add-one n) (turn n N (sum_flat n (omega arith)))

-- k·v / k is v
pub over_count : (k v : ℕ) → 0 < k → k ≤ 2 ^ 24 → k * v ≤ 2 ^ 24 → f32 (k * v) ⊘ f32 k ≡ f32 v
over_count k v K L M =
    div_value binary32 (f32 (k * v)) (f32 k) false false (k * v) 1 k 1 (lit< tt) K (whole_is (k * v) M) (whole_is k L)
    ∙ ap₂ (round binary32 false) (flip k v) (one-mul k)
    ∙ round_value binary32 (f32 v) false (v * k) k K (of_int-fits binary32 (pos v)) (value_over (f32 v) false v k (whole_is v small))
  where
    flip : (k v : ℕ) → k * v * 1 ≡ v * k
    flip k v = omega arith

    small : v ≤ 2 ^ 24
    small = omega (arith, mul-le-mul_right v K)

-- n pixels of the whole number v, some of them marked
module _ (ms : List ℕ) (n v : ℕ) (xs : List Float) (flat : (i : ℕ) → i < n → get_or xs i nan ≡ f32 v) (some : 0 < count_on ms n) (few : n ≤ 2 ^ 24) (least : n * v ≤ 2 ^ 24) where
  -- the mean is v
  mean_flat : mean_of ms n xs ≡ f32 v
  unfolding mean_of
  mean_flat =
      ap (λ (x : Float). x ⊘ f32 (count_on ms n)) (sum_agree (on ms) (on ms) (λ i. get_or xs i nan) (λ _. f32 v) n (λ i l. refl) (λ i l m. flat i l) ∙ sum_flat ms v n least)
      ∙ over_count (count_on ms n) v some (le_trans (count_le ms n) few) (le_trans (mul-le-mul_right v (count_le ms n)) least)

  -- nothing is left of a marked pixel
  centred_flat : (i : ℕ) → i < n → on ms i ≡ true → get_or (centred_of ms n xs) i nan ≡ f32 0
  unfolding centred_of
  centred_flat i l m =
      get_d_tab n i _ nan l
      ∙ pick_true (on ms i) _ _ m
      ∙ ap₂ (λ (x y : Float). x ⊖ y) (flat i l) mean_flat
      ∙ sub_whole v v (omega arith) (small (count_on ms n) some (le_trans (mul-le-mul_right v (count_le ms n)) least))
      ∙ ap f32 (none v)
    where
      none : (v : ℕ) → v - v ≡ 0
      none v = omega arith

      small : (k : ℕ) → 0 < k → k * v ≤ 2 ^ 24 → v ≤ 2 ^ 24
      small k K M = omega (arith, mul-le-mul_right v K)

  -- nor of the sum of squares
  pub squares_flat : product_of ms n (centred_of ms n xs) (centred_of ms n xs) ≡ f32 0
  unfolding product_of
  squares_flat =
      sum_agree (on ms) (on ms) _ (λ _. f32 0) n (λ i l. refl) (λ i l m. ap₂ (λ (x y : Float). x ⊗ y) (centred_flat i l m) (centred_flat i l m) ∙ mul_whole 0 0 (lit≤ tt) (lit≤ tt) (lit≤ tt))
      ∙ sum_flat ms 0 n (omega (arith, mul-zero n))
      ∙ ap f32 (mul-zero (count_on ms n))
