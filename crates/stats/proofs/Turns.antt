-- Loops over the marked places that carry any number of sums: the whole state is one fold over the marks, and each sum of the state is a
-- sum of the definitions. Assumes nothing.
use Prim.Native.Nat.{ℕ, ◌<◌}
use mathlib.Core.Path.{◌≡◌}
use mathlib.Core.Bool.{true}
use mathlib.Core.List.{List}
use lib.ListN.{get_or}
use lib.Ieee.{Float, nan}
use Rattle.lists.specs.Marked.{over_marked}
use Rattle.lists.proofs.Fold.{over_part}
use Rattle.marks.specs.Marks.{on}
use Rattle.floats.specs.F32.{◌⊕◌, ◌⊗◌, 0f}
use Rattle.floats.specs.Sums.{sum_over}
use Rattle.stats.specs.Stats.{product_of}

-- THE LAW: a number of the state that starts at 0 and to which each marked place adds f is the sum of f
module _ {S : Type 0} (ms : List ℕ) (step : S → ℕ → S) (s : S) (n : ℕ) (p : S → Float) (starts : p s ≡ 0f) where
  pub sum_part : (f : ℕ → Float) → ((u : S) (i : ℕ) → i < n → on ms i ≡ true → p (step u i) ≡ p u ⊕ f i) → p (over_marked (on ms) step s n) ≡ sum_over (on ms) f n
  unfolding sum_over
  sum_part f h = over_part p (on ms) step (λ v i. v ⊕ f i) s 0f n starts h

  pub product_part : (xs ys : List Float) → ((u : S) (i : ℕ) → i < n → on ms i ≡ true → p (step u i) ≡ p u ⊕ get_or xs i nan ⊗ get_or ys i nan) →
      p (over_marked (on ms) step s n) ≡ product_of ms n xs ys
  unfolding product_of
  product_part xs ys h = sum_part (λ i. get_or xs i nan ⊗ get_or ys i nan) h
