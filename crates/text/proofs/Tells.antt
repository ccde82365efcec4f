-- The text tells the numbers: decimals, signed ones, and whole lines are equal only where all their numbers are. Assumes nothing.
use Prim.Native.Nat.{ℕ, zero, suc, ◌+◌, ◌-◌, ◌*◌, ◌/◌, ◌%◌, ◌≤◌, ◌<◌}
use mathlib.Core.Path.{◌≡◌, refl, sym, ap, ◌∙◌}
use mathlib.Core.Bool.{Bool, true, false}
use mathlib.Core.List.{List, [], ◌∷◌, ◌++◌}
use mathlib.Core.Logic.{⊎_elim}
use native.Mathlib.Omega.{arith}
use lib.IntN.{ℤ, pos, negsuc}
use lib.ListN.{get_or, drop}
use Rattle.lists.specs.Marked.{pick}
use Rattle.text.specs.Text.{digits_of, decimal_of, signed_of, words_line, frame_line, end_word, end_line}
use Rattle.text.proofs.Digits.{one_digit, more_digits, one_or_more}

-- ---- one number

-- v with the digits of some text behind it
abbrev read : ℕ → List ℕ → ℕ
read v [] = v
read v (x ∷ s) = read (10 * v + (x - 48)) s

read_behind : (v : ℕ) (s : List ℕ) (d : ℕ) → read v (s ++ ((48 + d) ∷ [])) ≡ 10 * read v s + d
read_behind v [] d = omega arith
read_behind v (x ∷ s) d = read_behind (10 * v + (x - 48)) s d

read_digits : (f n : ℕ) → n ≤ f → read 0 (digits_of f n) ≡ n
read_digits zero n h = ap (read 0) (one_digit zero n (omega arith)) ∙ omega arith
read_digits (suc f) n h =
    ⊎_elim (λ p. ap (read 0) (one_digit (suc f) n p) ∙ omega arith)
    (λ p.
    ap (read 0) (more_digits f n p) ∙ read_behind 0 (digits_of f (n / 10)) (n % 10)
    ∙ ap (λ (v : ℕ). 10 * v + n % 10) (read_digits f (n / 10) (omega arith)) ∙ omega arith)
    (one_or_more n)

pub decimal_tells : (m n : ℕ) → decimal_of m ≡ decimal_of n → m ≡ n
unfolding decimal_of
decimal_tells m n e = sym (read_digits m m (omega arith)) ∙ ap (read 0) e ∙ read_digits n n (omega arith)

-- ---- bytes above b alone

abbrev Above : ℕ → List ℕ → Type 0
Above b [] = Unit {0}
Above b (x ∷ s) = (b < x) × Above b s

above_both : (b : ℕ) (s t : List ℕ) → Above b s → Above b t → Above b (s ++ t)
above_both b [] t h k = k
above_both b (x ∷ s) t h k = (h.0, above_both b s t h.1 k)

above_digits : (f n : ℕ) → Above 47 (digits_of f n)
unfolding digits_of
above_digits zero n = (omega arith, tt)
above_digits (suc f) n =
    ⊎_elim (λ p. rw (one_digit (suc f) n p) (omega arith, tt))
    (λ p. rw (more_digits f n p) (above_both 47 (digits_of f (n / 10)) _ (above_digits f (n / 10)) (omega arith, tt)))
    (one_or_more n)

lower : (b a : ℕ) (s : List ℕ) → a ≤ b → Above b s → Above a s
lower b a [] h k = tt
lower b a (x ∷ s) h k = (omega (arith, k.0), lower b a s h k.1)

above_decimal : (n : ℕ) → Above 47 (decimal_of n)
unfolding decimal_of
above_decimal n = above_digits n n

first : {x y : ℕ} {s t : List ℕ} → x ∷ s ≡ y ∷ t → x ≡ y
first e = ap (λ (l : List ℕ). get_or l 0 0) e

rest : {x y : ℕ} {s t : List ℕ} → x ∷ s ≡ y ∷ t → s ≡ t
rest e = ap (λ (l : List ℕ). drop 1 l) e

-- no decimal begins with a sign
no_sign : (s t : List ℕ) → Above 47 s → s ≡ 45 ∷ t → ⊥
no_sign [] t h e = let q : ◌≡◌ {A = ℕ} 0 45 = ap (λ (l : List ℕ). get_or l 0 0) e in absurd (omega arith)
no_sign (x ∷ s) t h e = let q : x ≡ 45 = first e in absurd (omega (arith, h.0))

pub signed_tells : (m n : ℤ) → signed_of m ≡ signed_of n → m ≡ n
unfolding signed_of
signed_tells (pos m) (pos n) e = ap pos (decimal_tells m n e)
signed_tells (pos m) (negsuc n) e = absurd (no_sign (decimal_of m) (decimal_of (n + 1)) (above_decimal m) e)
signed_tells (negsuc m) (pos n) e = absurd (no_sign (decimal_of n) (decimal_of (m + 1)) (above_decimal n) (sym e))
signed_tells (negsuc m) (negsuc n) e = let q : m + 1 ≡ n + 1 = decimal_tells (m + 1) (n + 1) (rest e) in ap negsuc (omega arith)

-- ---- words: the first byte up to 32 ends one

above_signed : (n : ℤ) → Above 32 (signed_of n)
unfolding signed_of
above_signed (pos n) = lower 47 32 (decimal_of n) (omega arith) (above_decimal n)
above_signed (negsuc n) = (omega arith, lower 47 32 (decimal_of (n + 1)) (omega arith) (above_decimal (n + 1)))

module _ (b : ℕ) (low : b ≤ 32) where
  word_tells : (w v s t : List ℕ) → Above 32 w → Above 32 v → w ++ (b ∷ s) ≡ v ++ (b ∷ t) → (w ≡ v) × (s ≡ t)
  word_tells [] [] s t h k e = (refl, rest e)
  word_tells [] (y ∷ v) s t h k e = let q : b ≡ y = first e in absurd (omega (arith, k.0))
  word_tells (x ∷ w) [] s t h k e = let q : x ≡ b = first e in absurd (omega (arith, h.0))
  word_tells (x ∷ w) (y ∷ v) s t h k e =
      let p = word_tells w v s t h.1 k.1 (rest e) in
      (ap (λ (z : ℕ). z ∷ w) (first e) ∙ ap (λ (l : List ℕ). y ∷ l) p.0, p.1)

  number_tells : (m n : ℕ) (s t : List ℕ) → decimal_of m ++ (b ∷ s) ≡ decimal_of n ++ (b ∷ t) → (m ≡ n) × (s ≡ t)
  number_tells m n s t e =
      let p = word_tells (decimal_of m) (decimal_of n) s t (lower 47 32 (decimal_of m) (omega arith) (above_decimal m)) (lower 47 32 (decimal_of n) (omega arith) (above_decimal n)) e in
      (decimal_tells m n p.0, p.1)

  shift_tells : (m n : ℤ) (s t : List ℕ) → signed_of m ++ (b ∷ s) ≡ signed_of n ++ (b ∷ t) → (m ≡ n) × (s ≡ t)
  shift_tells m n s t e = let p = word_tells (signed_of m) (signed_of n) s t (above_signed m) (above_signed n) e in (signed_tells m n p.0, p.1)

-- ---- lines

pub frame_tells : (p n k : ℕ) (x y t : ℤ) (p' n' k' : ℕ) (x' y' t' : ℤ) → frame_line p n k x y t ≡ frame_line p' n' k' x' y' t' →
    (p ≡ p') × (n ≡ n') × (k ≡ k') × (x ≡ x') × (y ≡ y') × (t ≡ t')
unfolding frame_line words_line
frame_tells p n k x y t p' n' k' x' y' t' e =
    let a = number_tells 32 (omega arith) p p' _ _ e in
    let b = number_tells 32 (omega arith) n n' _ _ a.1 in
    let c = number_tells 32 (omega arith) k k' _ _ b.1 in
    let d = shift_tells 32 (omega arith) x x' _ _ c.1 in
    let f = shift_tells 32 (omega arith) y y' _ _ d.1 in
    let g = shift_tells 10 (omega arith) t t' _ _ f.1 in
    (a.0, b.0, c.0, d.0, f.0, g.0)

pub end_tells : (a b : Bool) (m n : ℕ) → end_line a m ≡ end_line b n → (a ≡ b) × (m ≡ n)
unfolding end_line end_word words_line pick
end_tells true true m n e = (refl, (number_tells 10 (omega arith) m n _ _ (rest (rest (rest (rest (rest e)))))).0)
end_tells false false m n e = (refl, (number_tells 10 (omega arith) m n _ _ (rest (rest (rest (rest e))))).0)
end_tells true false m n e = let q : ◌≡◌ {A = ℕ} 100 99 = first e in absurd (omega arith)
end_tells false true m n e = let q : ◌≡◌ {A = ℕ} 99 100 = first e in absurd (omega arith)
