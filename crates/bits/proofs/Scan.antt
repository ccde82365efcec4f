-- The lowest bit of a word, each bit of a word changed, and the bits of a word from one of them on. Assumes nothing.
use Prim.Native.Nat.{ℕ, zero, suc, ◌+◌, ◌-◌, ◌/◌, ◌%◌, ◌^◌, ◌≤◌, ◌<◌}
use mathlib.Core.Path.{◌≡◌, refl, sym, ap, ap₂, ◌∙◌, subst}
use mathlib.Core.Bool.{Bool, true, false}
use mathlib.Core.List.{List}
use mathlib.Core.Logic.{◌⊎◌, inl, inr}
use native.Mathlib.Nat.{div-one, two-pow-succ, lt_of_lt_of_le, div-eq_of_lt, zero-div}
use native.Mathlib.Numerals.{add-one}
use native.Mathlib.Omega.{arith}
use lib.Count.{count_trailing_zeros, under}
use lib.Dec.{ltb}
use borrow.Author.Tests.{ltb-true, ltb-false}
use lib.ListN.{get_or}
use lib.Pow.{pow_mono, shr-shr, shr_lt}
use Rattle.lists.specs.Marked.{pick}
use Rattle.bits.specs.Words.{bit_at}

-- ---- the lowest bit
half_bit : (n s : ℕ) → n / 2 / 2 ^ s % 2 ≡ n / 2 ^ suc s % 2
half_bit n s = ap (λ (z : ℕ). z % 2) (shr-shr n 1 s ∙ ap (λ (z : ℕ). n / 2 ^ z) (next s))
  where
    next : (s : ℕ) → 1 + s ≡ suc s
    next s = omega arith

pub zeros_below : (k n s : ℕ) → s < count_trailing_zeros k n → n / 2 ^ s % 2 ≡ 0
unfolding count_trailing_zeros
zeros_below zero n s h = absurd (omega arith)
zeros_below (suc k) n s h = by (λ s. zeros_below k (n / 2) s) (n % 2) refl s h
  where
    by : ((s : ℕ) → s < count_trailing_zeros k (n / 2) → n / 2 / 2 ^ s % 2 ≡ 0) → (d : ℕ) → n % 2 ≡ d → (s : ℕ) → s < under d (count_trailing_zeros k (n / 2)) → n / 2 ^ s % 2 ≡ 0
    by rest zero e zero l = ap (λ (z : ℕ). z % 2) (div-one n) ∙ e
    by rest zero e (suc s) l = sym (half_bit n s) ∙ rest s (omega arith)
    by rest (suc d) e s l = absurd (omega arith)

pub bit_there : (k n : ℕ) → count_trailing_zeros k n < k → n / 2 ^ count_trailing_zeros k n % 2 ≡ 1
unfolding count_trailing_zeros
bit_there zero n h = absurd (omega arith)
bit_there (suc k) n h = by (bit_there k (n / 2)) (n % 2) refl h
  where
    by : (count_trailing_zeros k (n / 2) < k → n / 2 / 2 ^ count_trailing_zeros k (n / 2) % 2 ≡ 1) → (d : ℕ) → n % 2 ≡ d → under d (count_trailing_zeros k (n / 2)) < suc k → n / 2 ^ under d (count_trailing_zeros k (n / 2)) % 2 ≡ 1
    by rest zero e l = sym (half_bit n (count_trailing_zeros k (n / 2))) ∙ rest (omega arith)
    by rest (suc d) e l = ap (λ (z : ℕ). z % 2) (div-one n) ∙ e ∙ only d e
      where
        only : (d : ℕ) → n % 2 ≡ suc d → suc d ≡ 1
        only d e = omega arith

-- a number that is not 0 has a bit
pub some_bit : (k n : ℕ) → 0 < n → n < 2 ^ k → count_trailing_zeros k n < k
unfolding count_trailing_zeros
some_bit zero n p h = absurd (omega arith)
some_bit (suc k) n p h = by (λ q. some_bit k (n / 2) q (shr_lt k 1 (rw (sym (add-one k)) at h))) (n % 2) refl
  where
    by : (0 < n / 2 → count_trailing_zeros k (n / 2) < k) → (d : ℕ) → n % 2 ≡ d → under d (count_trailing_zeros k (n / 2)) < suc k
    by rest zero e = let r = rest (omega arith) in omega arith
    by rest (suc d) e = omega arith

-- ---- each bit changed
pub changed : (k w s : ℕ) → w < 2 ^ k → s < k → (2 ^ k - 1 - w) / 2 ^ s % 2 ≡ 1 - w / 2 ^ s % 2
changed zero w s W S = absurd (omega arith)
changed (suc k) w zero W S = ap (λ (z : ℕ). z % 2) (div-one (2 ^ suc k - 1 - w)) ∙ last (2 ^ suc k) (2 ^ k) w W (two-pow-succ k) ∙ ap (λ (z : ℕ). 1 - z % 2) (sym (div-one w))
  where
    last : (a b w : ℕ) → w < a → a ≡ b + b → (a - 1 - w) % 2 ≡ 1 - w % 2
    last a b w h e = omega arith
changed (suc k) w (suc s) W S =
    sym (half_bit (2 ^ suc k - 1 - w) s)
    ∙ ap (λ (z : ℕ). z / 2 ^ s % 2) (half (2 ^ suc k) (2 ^ k) w W (two-pow-succ k))
    ∙ changed k (w / 2) s (shr_lt k 1 (rw (sym (add-one k)) at W)) (omega arith)
    ∙ ap (λ (z : ℕ). 1 - z) (half_bit w s)
  where
    half : (a b w : ℕ) → w < a → a ≡ b + b → (a - 1 - w) / 2 ≡ b - 1 - w / 2
    half a b w h e = omega arith

-- ---- the bits of a word from the bit of pixel i on
pub bit_from : (ws : List ℕ) (i s : ℕ) → i % 64 + s < 64 → get_or ws (i / 64) 0 / 2 ^ (i % 64 + s) % 2 ≡ bit_at ws (i + s)
unfolding bit_at
bit_from ws i s h =
    let a : (i + s) / 64 ≡ i / 64 = omega arith in
    let b : (i + s) % 64 ≡ i % 64 + s = omega arith in
    sym (ap₂ (λ (x y : ℕ). get_or ws x 0 / 2 ^ y % 2) a b)

pub lt_or_le : (a b : ℕ) → (a < b) ⊎ (b ≤ a)
lt_or_le a b = by (ltb a b) refl
  where
    by : (t : Bool) → ltb a b ≡ t → (a < b) ⊎ (b ≤ a)
    by true e = inl (ltb-true a b e)
    by false e = inr (ltb-false a b e)

-- a bit read from a word as it is, or with each bit changed
module _ (marked : Bool) (x : ℕ) (few : x ≤ 1) where
  pub read_same : pick marked (1 - x) x ≡ 0 → x ≡ pick marked 1 0
  unfolding pick
  read_same e = by marked e
    where
      by : (b : Bool) → pick b (1 - x) x ≡ 0 → x ≡ pick b 1 0
      by true e = omega arith
      by false e = e

  pub read_other : pick marked (1 - x) x ≡ 1 → x ≡ 1 - pick marked 1 0
  unfolding pick
  read_other e = by marked e
    where
      by : (b : Bool) → pick b (1 - x) x ≡ 1 → x ≡ 1 - pick b 1 0
      by true e = omega arith
      by false e = e

-- ---- the search: what is left of the word at pixel i, shifted down
module _ (ws : List ℕ) (marked : Bool) (i v : ℕ) (few : v < 2 ^ 64) (is : (s : ℕ) → s < 64 → v / 2 ^ s % 2 ≡ pick marked (1 - get_or ws (i / 64) 0 / 2 ^ s % 2) (get_or ws (i / 64) 0 / 2 ^ s % 2)) where
  abbrev rest : ℕ
  rest = v / 2 ^ (i % 64)

  rest_bit : (s : ℕ) → i % 64 + s < 64 → rest / 2 ^ s % 2 ≡ pick marked (1 - bit_at ws (i + s)) (bit_at ws (i + s))
  rest_bit s h =
      ap (λ (z : ℕ). z % 2) (shr-shr v (i % 64) s)
      ∙ is (i % 64 + s) h
      ∙ ap (λ (z : ℕ). pick marked (1 - z) z) (bit_from ws i s h)

  bit_few : (k : ℕ) → bit_at ws k ≤ 1
  unfolding bit_at
  bit_few k = omega arith

  rest_lt : rest < 2 ^ (64 - i % 64)
  rest_lt =
      let e : 64 - i % 64 + i % 64 ≡ 64 = omega arith in
      shr_lt (64 - i % 64) (i % 64) (subst (λ (z : ℕ). v < 2 ^ z) (sym e) few)

  -- none left in this word
  pub none_left : rest ≡ 0 → (s : ℕ) → i % 64 + s < 64 → bit_at ws (i + s) ≡ pick marked 1 0
  none_left z s h = read_same marked (bit_at ws (i + s)) (bit_few (i + s)) (sym (rest_bit s h) ∙ ap (λ (n : ℕ). n / 2 ^ s % 2) z ∙ ap (λ (n : ℕ). n % 2) (zero-div (2 ^ s)))

  module _ (r : ℕ) (there : rest / 2 ^ r % 2 ≡ 1) (below : (s : ℕ) → s < r → rest / 2 ^ s % 2 ≡ 0) where
    pub found_in : i % 64 + r < 64
    found_in = by (lt_or_le r (64 - i % 64))
      where
        by : (r < 64 - i % 64) ⊎ (64 - i % 64 ≤ r) → i % 64 + r < 64
        by (inl l) = omega arith
        by (inr l) = absurd (clash (sym there ∙ ap (λ (z : ℕ). z % 2) (div-eq_of_lt (lt_of_lt_of_le rest_lt (pow_mono l)))))
          where
            clash : ◌≡◌ {A = ℕ} 1 (0 % 2) → ⊥
            clash e = omega arith

    pub found_other : bit_at ws (i + r) ≡ 1 - pick marked 1 0
    found_other = read_other marked (bit_at ws (i + r)) (bit_few (i + r)) (sym (rest_bit r found_in) ∙ there)

    pub found_same : (s : ℕ) → s < r → bit_at ws (i + s) ≡ pick marked 1 0
    found_same s h = let f = found_in in read_same marked (bit_at ws (i + s)) (bit_few (i + s)) (sym (rest_bit s (omega arith)) ∙ below s h)
