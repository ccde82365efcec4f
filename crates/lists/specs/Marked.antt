-- Folds over the marked places of an image, in order, and how many words hold their marks. Definitions only.
use Rattle.std.specs.Prelude.{ℕ, zero, suc, ◌+◌, ◌/◌, Bool, true, false}

-- x where the test passes, y where it fails. It is shut, so that a proof can go by the two cases without opening the test
unfoldable pub pick : {A : Type 0} → Bool → A → A → A
pick true x y = x
pick false x y = y

-- s, taken by `step` through the places below n that m marks, in order; the others are passed by
unfoldable pub over_marked : {S : Type 0} → (ℕ → Bool) → (S → ℕ → S) → S → ℕ → S
unfolding pick
over_marked m step s zero = s
over_marked m step s (suc i) = pick (m i) (step (over_marked m step s i) i) (over_marked m step s i)

-- how many of the places below n are marked
abbrev pub count_marked : (ℕ → Bool) → ℕ → ℕ
count_marked m n = over_marked m (λ k i. k + 1) 0 n

-- s, taken by `step` through the k places from a on, in order
unfoldable pub over_range : {S : Type 0} → (S → ℕ → S) → S → ℕ → ℕ → S
over_range step s a zero = s
over_range step s a (suc k) = step (over_range step s a k) (a + k)

-- how many words of sixty-four marks n places need: n / 64, rounded up
abbrev pub words_for : ℕ → ℕ
words_for n = (n + 63) / 64
