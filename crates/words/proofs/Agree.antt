-- Numbers compared one after another: tests that agree, and the test of each element by its place. Assumes nothing.
use Prim.Native.Nat.{ℕ, zero, suc, ◌+◌, ◌<◌}
use mathlib.Core.Path.{◌≡◌, refl, sym, ap, ap₂, ◌∙◌}
use mathlib.Core.Bool.{Bool, true, false, ◌&&◌}
use mathlib.Core.List.{List, [], ◌∷◌}
use native.Mathlib.Nat.{zero-add}
use native.Mathlib.Omega.{arith}
use lib.ListN.{length, get_or}
use Rattle.std.specs.List.{list_all, enumerate_from, range_with_len}
use Rattle.words.specs.Words.{all_below}

pub all_agree : (n : ℕ) (p q : ℕ → Bool) → ((i : ℕ) → i < n → p i ≡ q i) → all_below n p ≡ all_below n q
unfolding all_below
all_agree zero p q f = refl
all_agree (suc n) p q f = ap (λ (b : Bool). b && all_below n p) (f n (omega arith)) ∙ ap (λ (b : Bool). q n && b) (all_agree n p q (λ i h. f i (omega arith)))

-- ---- the same from the first number on
swap : (a b c : Bool) → (a && (b && c)) ≡ (b && (a && c))
swap true b c = refl
swap false true c = refl
swap false false c = refl

first : (n : ℕ) (p : ℕ → Bool) → all_below (suc n) p ≡ (p 0 && all_below n (λ i. p (suc i)))
unfolding all_below
first zero p = refl
first (suc n) p = ap (λ (b : Bool). p (suc n) && b) (first n p) ∙ swap (p (suc n)) (p 0) (all_below n (λ i. p (suc i)))

-- each number of a range
each_in : (a n : ℕ) (p : ℕ → Bool) → list_all p (range_with_len a n) ≡ all_below n (λ i. p (a + i))
unfolding all_below
each_in a zero p = refl
each_in a (suc n) p =
    let here : a ≡ a + 0 = omega arith in
    let next : (i : ℕ) → a + 1 + i ≡ a + suc i = λ i. omega arith in
    ap₂ (λ (k : ℕ) (b : Bool). p k && b) here (each_in (a + 1) n p ∙ all_agree n _ _ (λ i h. ap p (next i)))
    ∙ sym (first n (λ i. p (a + i)))

pub each_below : (n : ℕ) (p : ℕ → Bool) → list_all p (range_with_len 0 n) ≡ all_below n p
each_below n p = each_in 0 n p ∙ all_agree n _ _ (λ i h. ap p (zero-add i))

module _ {A : Type 0} (p : ℕ × A → Bool) (d : A) where
  each_from : (n : ℕ) (xs : List A) → list_all p (enumerate_from n xs) ≡ all_below (length xs) (λ i. p (n + i, get_or xs i d))
  unfolding all_below
  each_from n [] = refl
  each_from n (x ∷ xs) =
      let here : n ≡ n + 0 = omega arith in
      let next : (i : ℕ) → n + 1 + i ≡ n + suc i = λ i. omega arith in
      ap₂ (λ (k : ℕ) (b : Bool). p (k, x) && b) here (each_from (n + 1) xs ∙ all_agree (length xs) _ _ (λ i h. ap (λ (k : ℕ). p (k, get_or xs i d)) (next i)))
      ∙ sym (first (length xs) (λ i. p (n + i, get_or (x ∷ xs) i d)))

  -- each element, tested with its place
  pub each_at : (xs : List A) → list_all p (enumerate_from 0 xs) ≡ all_below (length xs) (λ i. p (i, get_or xs i d))
  each_at xs = each_from 0 xs ∙ all_agree (length xs) _ _ (λ i h. ap (λ (k : ℕ). p (k, get_or xs i d)) (zero-add i))
