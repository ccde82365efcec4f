-- How far the recurrence is from its series, for any divisors: each step cuts a product to a whole number, and starts from a square that was cut. Assumes nothing.
use mathlib.Core.Path.{◌≡◌, sym, ap, ap₂, ◌∙◌, subst}
use mathlib.Core.Bool.{Bool, true, ◌&&◌}
use Prim.Native.Nat.{ℕ, zero, suc, ◌+◌, ◌-◌, ◌*◌, ◌/◌, ◌^◌, ◌≤◌, ◌<◌}
use native.Mathlib.Nat.{le_trans, le_of_eq, le_of_lt, lt_of_lt_of_le, add-zero, mul-zero, one-mul, mul-add, mul-pos, mul-le-mul_left, le_of_mul-le-mul_right, mul-div-le, lt-div-mul-add, sub-add_cancel, pow-zero, pow-succ'}
use native.Mathlib.Omega.{arith}
use lib.Dec.{T, leb, leb→le, lit<}
use lib.Ieee.Fits.{and_l, and_r}
use Rattle.series.specs.Recurrence.{quotient_of, u_next, steps_of}
use Rattle.series.proofs.Recurrence.{taken_le, steps_le}
use Rattle.accuracy.proofs.Close.{Fraction, just, scale, rest, Close, through, looser, times, left}

-- 1 in the units of the recurrence
abbrev pub one : ℕ
one = 2 ^ 30

-- errors are counted in this many parts of 1
abbrev pub parts : ℕ
parts = 2 ^ 40

-- ---- one step

-- z is a / c, in those units, cut; a / c is at most 4
pub record Square (z a c : ℕ) : Type 0 where
  pub below : 0 < c
  pub low : z * c ≤ one * a
  pub high : one * a ≤ z * c + c
  pub four : a ≤ 4 * c

-- the error after a step for the divisor d, in those parts, of which 1024 make a unit: a unit for the cut, 1 / d of one for the square's, and the error before it times 4 / d
abbrev pub error_next : ℕ → ℕ → ℕ
error_next d n = suc ((1024 * d + 1024 + 4 * n) / d)

error_room : (d n : ℕ) → 0 < d → 1024 * d + 1024 + 4 * n ≤ error_next d n * d
error_room d n D = let x = 1024 * d + 1024 + 4 * n in le_trans (le_of_lt (lt-div-mul-add {a = x} D)) (le_of_eq (omega arith))

module _ (z a c : ℕ) (s : Square z a c) where
  pub z_most : z ≤ 4 * one
  z_most = le_of_mul-le-mul_right (le_trans s.low (omega (arith, s.four))) s.below

  -- z * u / (2 ^ 30 * d), cut, is within (1 + 1 / d) units of a / c * u / d
  cut_close : (d u : ℕ) → 0 < d → u ≤ one → Close (quotient_of z d u) one (just (u * a) (one * (c * d))) (d + 1) (one * d)
  cut_close d u D U =
      let t = quotient_of z d u in
      let tl : one * d * t ≤ z * u = mul-div-le (z * u) (one * d) in
      let th : z * u ≤ t * (one * d) + one * d = le_of_lt (lt-div-mul-add (mul-pos (lit< tt) D)) in
      record {
        under = omega (arith, mul-le-mul_left (c * d) tl, mul-le-mul_left (u * d) s.low);
        above = omega (arith, mul-le-mul_left (c * d) th, mul-le-mul_left (u * d) s.high, mul-le-mul_left (c * d) U);
      }

  -- what a step takes off
  pub taken_close : {u n : ℕ} {f : Fraction} (d : ℕ) → 0 < d → u ≤ one → Close u one f n parts → Close (quotient_of z d u) one (scale a (c * d) f) (error_next d n) parts
  taken_close {u} {n} d D U h =
      looser (mul-pos (mul-pos (lit< tt) D) (mul-pos (lit< tt) (mul-pos s.below D)))
      (omega (arith, mul-le-mul_left (c * d) (error_room d n D), mul-le-mul_left (n * d) s.four))
      (through (mul-pos (lit< tt) (mul-pos s.below D)) (cut_close d u D U) (times a (c * d) h))

  -- what it leaves: for a divisor from 4 on it takes no more than there is
  step_close : {u n : ℕ} {f : Fraction} (d : ℕ) → 4 ≤ d → u ≤ one → Close u one f n parts → Close (u_next z d u) one (rest (scale a (c * d) f)) (error_next d n) parts
  step_close {u} d D U h = left (sub-add_cancel (taken_le z d u (omega (arith, z_most)) U)) (taken_close d (lt_of_lt_of_le (lit< tt) D) U h)

-- ---- the series: after n steps it has the terms for a ^ 0 to a ^ n, each over the divisors that it has met

-- the product of the divisors of the first m steps
unfoldable pub product : (ℕ → ℕ) → ℕ → ℕ → ℕ
product d top zero = 1
product d top (suc m) = d (top - m) * product d top m

abbrev pub term : (ℕ → ℕ) → ℕ → ℕ → ℕ → ℕ → ℕ → ℕ
term d top a c k m = product d top m * (a ^ k * c ^ m)

-- every second term, from the one for a ^ k with m divisors on
unfoldable pub terms : (ℕ → ℕ) → ℕ → ℕ → ℕ → ℕ → ℕ → ℕ
unfolding product
terms d top a c k zero = term d top a c k 0
terms d top a c k (suc zero) = term d top a c k 1
terms d top a c k (suc (suc m)) = term d top a c k (suc (suc m)) + terms d top a c (suc (suc k)) m

unfoldable pub odd_terms : (ℕ → ℕ) → ℕ → ℕ → ℕ → ℕ → ℕ
unfolding terms
odd_terms d top a c zero = 0
odd_terms d top a c (suc n) = terms d top a c 1 n

abbrev pub partial : (ℕ → ℕ) → ℕ → ℕ → ℕ → ℕ → Fraction
partial d top a c n = record { plus = terms d top a c 0 n; minus = odd_terms d top a c n; over = product d top n * c ^ n }

module _ (d : ℕ → ℕ) (top a c : ℕ) where
  term_up : (k m : ℕ) → a * term d top a c k m ≡ term d top a c (suc k) m
  term_up k m = rw (pow-succ' a k) (omega arith)

  terms_up : (k m : ℕ) → a * terms d top a c k m ≡ terms d top a c (suc k) m
  unfolding terms
  terms_up k zero = term_up k 0
  terms_up k (suc zero) = term_up k 1
  terms_up k (suc (suc m)) = mul-add a (term d top a c k (suc (suc m))) (terms d top a c (suc (suc k)) m) ∙ ap₂ ◌+◌ (term_up k (suc (suc m))) (terms_up (suc (suc k)) m)

  first_term : (m : ℕ) → term d top a c 0 m ≡ product d top m * c ^ m
  first_term m = ap (λ (x : ℕ). product d top m * (x * c ^ m)) (pow-zero a) ∙ ap (λ (x : ℕ). product d top m * x) (one-mul (c ^ m))

  over_next : (n : ℕ) → c * d (top - n) * (product d top n * c ^ n) ≡ product d top (suc n) * c ^ suc n
  unfolding product
  over_next n = rw (pow-succ' c n) (omega arith)

  plus_next : (n : ℕ) → product d top (suc n) * c ^ suc n + a * odd_terms d top a c n ≡ terms d top a c 0 (suc n)
  unfolding terms odd_terms
  plus_next zero = ap (λ (x : ℕ). product d top 1 * c ^ 1 + x) (mul-zero a) ∙ add-zero (product d top 1 * c ^ 1) ∙ sym (first_term 1)
  plus_next (suc n) = ap₂ ◌+◌ (sym (first_term (suc (suc n)))) (terms_up 1 n)

  pub next : (n : ℕ) → rest (scale a (c * d (top - n)) (partial d top a c n)) ≡ partial d top a c (suc n)
  unfolding odd_terms
  next n = λ i. record { plus = (ap (λ (x : ℕ). x + a * odd_terms d top a c n) (over_next n) ∙ plus_next n) i; minus = terms_up 0 n i; over = over_next n i }

-- ---- all the steps

unfoldable pub error_of : (ℕ → ℕ) → ℕ → ℕ → ℕ
error_of d top zero = 0
error_of d top (suc n) = error_next (d (top - n)) (error_of d top n)

-- none of the first n divisors is below 4
abbrev pub four_up : (ℕ → ℕ) → ℕ → ℕ → Bool
four_up d top zero = true
four_up d top (suc n) = leb 4 (d (top - n)) && four_up d top n

pub steps_close : (z a c : ℕ) → Square z a c → (d : ℕ → ℕ) (top n : ℕ) → T (four_up d top n) → Close (steps_of d z top n) one (partial d top a c n) (error_of d top n) parts
unfolding steps_of error_of odd_terms
steps_close z a c s d top zero t = record { under = omega (arith, first_term d top a c 0); above = omega (arith, first_term d top a c 0) }
steps_close z a c s d top (suc n) t =
    subst (λ (f : Fraction). Close (steps_of d z top (suc n)) one f (error_of d top (suc n)) parts) (next d top a c n)
    (step_close z a c s (d (top - n)) (leb→le 4 (d (top - n)) (and_l (leb 4 (d (top - n))) (four_up d top n) t)) (steps_le d z top n)
    (steps_close z a c s d top n (and_r (leb 4 (d (top - n))) (four_up d top n) t)))
