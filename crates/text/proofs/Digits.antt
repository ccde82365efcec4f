-- The digits of a number: those that itoa writes are the definition's. Assumes nothing.
use Prim.Native.Nat.{ℕ, zero, suc, ◌+◌, ◌/◌, ◌%◌, ◌^◌, ◌≤◌, ◌<◌}
use mathlib.Core.Path.{◌≡◌, sym, ap, ◌∙◌}
use mathlib.Core.Bool.{true, false, true≢false}
use mathlib.Core.List.{List, [], ◌∷◌, ◌++◌}
use mathlib.Core.Logic.{◌⊎◌, inl, inr, ⊎_elim}
use native.Mathlib.Nat.{eq-zero-or-pos}
use native.Mathlib.Omega.{arith}
use borrow.Author.Tests.{lt-ltb, le-ltb, ltb-true}
use lib.IntN.{ℤ, pos, negsuc, nat_abs}
use lib.Signed.{lt_z}
use Rattle.std.specs.Fmt.{decimal}
use Rattle.std.proofs.lemmas.Fmt.{decimal_by_steps}
use Rattle.lists.proofs.Cases.{pick_true, pick_false}
use Rattle.text.specs.Text.{digits_of, decimal_of, signed_of}

-- ---- one digit, or more

pub one_digit : (f n : ℕ) → n < 10 → digits_of f n ≡ (48 + n) ∷ []
unfolding digits_of
one_digit zero n h = let e : n % 10 ≡ n = omega arith in ap (λ (d : ℕ). (48 + d) ∷ []) e
one_digit (suc f) n h = pick_true _ _ _ (lt-ltb n 10 h)

pub more_digits : (f n : ℕ) → 10 ≤ n → digits_of (suc f) n ≡ digits_of f (n / 10) ++ ((48 + n % 10) ∷ [])
unfolding digits_of
more_digits f n h = pick_false _ _ _ (le-ltb n 10 h)

pub one_or_more : (n : ℕ) → (n < 10) ⊎ (10 ≤ n)
one_or_more n = ⊎_elim (λ p. inl (omega (arith, p))) (λ p. inr (omega (arith, p))) (eq-zero-or-pos (n / 10))

-- ---- the digits that the library writes

-- more room than n needs changes nothing
enough : (f g n : ℕ) → n ≤ f → n ≤ g → digits_of f n ≡ digits_of g n
enough zero g n h k = one_digit zero n (omega arith) ∙ sym (one_digit g n (omega arith))
enough (suc f) zero n h k = one_digit (suc f) n (omega arith) ∙ sym (one_digit zero n (omega arith))
enough (suc f) (suc g) n h k =
    ⊎_elim (λ p. one_digit (suc f) n p ∙ sym (one_digit (suc g) n p))
    (λ p.
    more_digits f n p
    ∙ ap (λ (l : List ℕ). l ++ ((48 + n % 10) ∷ [])) (enough f g (n / 10) (omega (arith, p)) (omega (arith, p)))
    ∙ sym (more_digits g n p))
    (one_or_more n)

longer : (n : ℕ) → 10 ≤ n → decimal_of (n / 10) ++ ((48 + n % 10) ∷ []) ≡ decimal_of n
unfolding decimal_of
longer zero h = absurd (omega arith)
longer (suc f) h =
    ap (λ (l : List ℕ). l ++ ((48 + suc f % 10) ∷ [])) (enough (suc f / 10) f (suc f / 10) (omega arith) (omega arith))
    ∙ sym (more_digits f (suc f) h)

pub decimal_is : (n : ℕ) → n < 2 ^ 64 → decimal n ≡ decimal_of n
unfolding decimal_of
decimal_is n h =
    decimal_by_steps (λ k l. l ≡ decimal_of k) (λ k p. sym (one_digit k k p))
    (λ k ds p e. ap (λ (l : List ℕ). l ++ ((48 + k % 10) ∷ [])) e ∙ longer k p)
    n h

next_is : (n : ℕ) → n + 1 < 2 ^ 64 → decimal (suc n) ≡ decimal_of (n + 1)
next_is n h = let e : suc n ≡ n + 1 = omega arith in ap decimal e ∙ decimal_is (n + 1) h

-- ---- a sign, and the size behind it

pub signed_below : (n : ℤ) → nat_abs n < 2 ^ 16 → lt_z n (pos 0) ≡ true → signed_of n ≡ 45 ∷ decimal (nat_abs n)
unfolding signed_of
signed_below (pos n) h e = absurd (omega (arith, ltb-true n 0 e))
signed_below (negsuc n) h e = ap (λ (l : List ℕ). 45 ∷ l) (sym (next_is n (omega (arith, h))))

pub signed_above : (n : ℤ) → nat_abs n < 2 ^ 16 → lt_z n (pos 0) ≡ false → signed_of n ≡ decimal (nat_abs n)
unfolding signed_of
signed_above (pos n) h e = sym (decimal_is n (omega (arith, h)))
signed_above (negsuc n) h e = absurd (true≢false e)
