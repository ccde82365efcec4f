-- What the loop of the means holds: the sums of the template and the image over the marked places, and at the end their means. Assumes nothing.
use Prim.Native.Nat.{ℕ, ◌+◌, ◌*◌, ◌<◌}
use mathlib.Core.Path.{◌≡◌, refl, ap, ap₂, ◌∙◌}
use mathlib.Core.List.{List}
use native.Mathlib.Omega.{arith}
use lib.ListN.{get_or}
use lib.Ieee.{Float, nan}
use Rattle.lists.specs.Lists.{image}
use Rattle.lists.specs.Marked.{over_marked}
use Rattle.lists.proofs.Images.{get_d_place}
use Rattle.marks.specs.Marks.{on, count_on}
use Rattle.bits.specs.Words.{unpacked_of}
use Rattle.rows.specs.Between.{Between, FoldBetween}
use Rattle.rows.proofs.Between.{fold_between}
use Rattle.floats.specs.F32.{◌⊕◌, ◌⊘◌, f32, 0f}
use Rattle.floats.specs.Sums.{sum_over}
use Rattle.stats.specs.Stats.{mean_of}
use Rattle.stats.specs.declared.Means.{Means}
use Rattle.stats.proofs.Turns.{sum_part}

-- a sum over the marked places, divided by their count
mean_is : (ms : List ℕ) (n found : ℕ) (t nf : Float) (xs : List Float) → t ≡ sum_over (on ms) (λ i. get_or xs i nan) n → found ≡ count_on ms n → nf ≡ f32 found → t ⊘ nf ≡ mean_of ms n xs
unfolding mean_of
mean_is ms n found t nf xs e ec ef = ap₂ ◌⊘◌ e (ef ∙ ap f32 (omega arith))

module _ (ws : List ℕ) (n : ℕ) (part : List Float) where
  abbrev ms : List ℕ
  ms = unpacked_of ws n

  abbrev pub add_both : Means → ℕ → Means
  add_both s k = (s.0 ⊕ get_or (image n 3 part) k nan, s.1 ⊕ get_or (image n 0 part) k nan)

  -- the sums of the template and the image over the marked places below i
  unfoldable pub both_of : ℕ → Means
  both_of i = over_marked (on ms) add_both (0f, 0f) i

  -- where the marks begin, and where they end
  module _ (from to : ℕ) (o : Between ms n from to) where
    pub both_none : ◌≡◌ {A = Means} (0f, 0f) (both_of from)
    unfolding both_of FoldBetween
    both_none = (fold_between Means ms n from to o add_both (0f, 0f)).0

    pub both_all : both_of to ≡ both_of n
    unfolding both_of FoldBetween
    both_all = (fold_between Means ms n from to o add_both (0f, 0f)).1

  -- what the code adds at a pixel
  pub both_same : (s : Means) (k : ℕ) → k < n → ◌≡◌ {A = Means} (s.0 ⊕ get_or part (3 * n + k) nan, s.1 ⊕ get_or part k nan) (add_both s k)
  both_same s k h = ap₂ (λ (x y : Float). (s.0 ⊕ x, s.1 ⊕ y)) (get_d_place n 3 k _ part nan h refl) (get_d_place n 0 k k part nan h (omega arith))

  pub means_of : (found : ℕ) (s : Means) (nf : Float) → s ≡ both_of n → found ≡ count_on ms n → nf ≡ f32 found →
      ◌≡◌ {A = Means} (s.0 ⊘ nf, s.1 ⊘ nf) (mean_of ms n (image n 3 part), mean_of ms n (image n 0 part))
  unfolding both_of
  means_of found s nf e ec ef =
      let a = mean_is ms n found s.0 nf (image n 3 part) (rw e (sum_part ms add_both (0f, 0f) n (λ t. t.0) refl (λ i. get_or (image n 3 part) i nan) (λ u i l m. refl))) ec ef in
      let b = mean_is ms n found s.1 nf (image n 0 part) (rw e (sum_part ms add_both (0f, 0f) n (λ t. t.1) refl (λ i. get_or (image n 0 part) i nan) (λ u i l m. refl))) ec ef in
      λ j. (a j, b j)
