-- The count of the marks: its start and turn, its bound, and what it depends on. Assumes nothing.
use mathlib.Core.Path.{◌≡◌, refl, ap, ◌∙◌}
use mathlib.Core.Bool.{true, false, not}
use mathlib.Core.List.{List}
use Prim.Native.Nat.{ℕ, zero, suc, ◌+◌, ◌≤◌, ◌<◌}
use native.Mathlib.Omega.{arith}
use lib.Dec.{eqb}
use lib.ListN.{get_or}
use Rattle.lists.proofs.Fold.{over_none, over_marked_lem, over_passed, over_agree, counted_le}
use Rattle.marks.specs.Marks.{on, count_on}

pub count_none : (ms : List ℕ) → count_on ms 0 ≡ 0
unfolding count_on
count_none ms = over_none (on ms) (λ k i. k + 1) 0

pub count_marked : (ms : List ℕ) (i : ℕ) → on ms i ≡ true → count_on ms (i + 1) ≡ count_on ms i + 1
unfolding count_on
count_marked ms i e = over_marked_lem (on ms) (λ k i. k + 1) 0 i e

pub count_passed : (ms : List ℕ) (i : ℕ) → on ms i ≡ false → count_on ms (i + 1) ≡ count_on ms i
unfolding count_on
count_passed ms i e = over_passed (on ms) (λ k i. k + 1) 0 i e

-- a mark that is 0 or 1 is what it adds to the count
pub count_byte : (ms : List ℕ) (i : ℕ) → get_or ms i 0 ≤ 1 → count_on ms (i + 1) ≡ count_on ms i + get_or ms i 0
count_byte ms i h = by (get_or ms i 0) refl h
  where
    by : (b : ℕ) → get_or ms i 0 ≡ b → b ≤ 1 → count_on ms (i + 1) ≡ count_on ms i + b
    by zero e l = count_passed ms i (ap (λ (x : ℕ). not (eqb x 0)) e) ∙ more (count_on ms i)
      where
        more : (k : ℕ) → k ≡ k + 0
        more k = omega arith
    by (suc zero) e l = count_marked ms i (ap (λ (x : ℕ). not (eqb x 0)) e)
    by (suc (suc b)) e l = absurd (many b l)
      where
        many : (b : ℕ) → suc (suc b) ≤ 1 → ⊥
        many b h = omega arith

pub count_le : (ms : List ℕ) (n : ℕ) → count_on ms n ≤ n
unfolding count_on
count_le ms n = counted_le (on ms) n

-- marks that agree up to n count alike
pub count_agree : (ms ms' : List ℕ) (n : ℕ) → ((i : ℕ) → i < n → get_or ms i 0 ≡ get_or ms' i 0) → count_on ms n ≡ count_on ms' n
unfolding count_on
count_agree ms ms' n e = over_agree (on ms) (on ms') (λ k i. k + 1) (λ k i. k + 1) 0 n (λ i l. ap (λ (b : ℕ). not (eqb b 0)) (e i l)) (λ t i l m. refl)
