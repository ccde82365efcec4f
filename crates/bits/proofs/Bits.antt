-- One word: its bits one by one, its count, two words one above the other. Assumes nothing.
use Prim.Native.Nat.{ℕ, zero, suc, ◌+◌, ◌-◌, ◌*◌, ◌/◌, ◌%◌, ◌^◌, ◌≤◌, ◌<◌}
use mathlib.Core.Path.{◌≡◌, refl, sym, ap, ap₂, ◌∙◌}
use mathlib.Core.Bool.{Bool, true, false}
use native.Mathlib.Nat.{add-zero, add-suc, add_assoc, add-mul, mul_assoc, mul_comm, zero-mul, zero-add, pow-suc, two-pow-succ, mul-le-mul_right}
use native.Mathlib.Numerals.{add-one}
use native.Mathlib.Omega.{arith}
use lib.Count.{ones, ones_cat}
use lib.Dec.{lit<, lit≤}
use lib.Pow.{pow-add, high}
use Rattle.lists.specs.Marked.{pick, over_marked}
use Rattle.lists.proofs.Cases.{pick_both, pick_true, pick_false}
use Rattle.lists.proofs.Fold.{over_marked_lem, over_passed}
use Rattle.bits.specs.Words.{packed_of}

pub bit_le : (b : Bool) → pick b 1 0 ≤ 1
bit_le b = pick_both (λ k. k ≤ 1) b 1 0 (lit≤ tt) (lit≤ tt)

module _ (m : ℕ → Bool) where
  abbrev pub bit : ℕ → ℕ
  bit i = pick (m i) 1 0

  pub word_none : (a : ℕ) → packed_of m a 0 ≡ 0
  unfolding packed_of
  word_none a = refl

  -- one more mark goes above those that are there
  pub word_step : (a k : ℕ) → packed_of m a (suc k) ≡ bit (a + k) * 2 ^ k + packed_of m a k
  unfolding packed_of
  word_step a k = ap (λ (z : ℕ). pick (m z) 1 0 * 2 ^ k + packed_of m a k) (omega arith)

  pub word_more : (a k : ℕ) → packed_of m a (k + 1) ≡ bit (a + k) * 2 ^ k + packed_of m a k
  word_more a k = ap (packed_of m a) (add-one k) ∙ word_step a k

  pub word_lt : (a k : ℕ) → packed_of m a k < 2 ^ k
  word_lt a zero = rw (word_none a) (lit< tt)
  word_lt a (suc k) = rw (word_step a k) (omega (arith, word_lt a k, mul-le-mul_right (2 ^ k) (bit_le (m (a + k))), two-pow-succ k))

  -- l marks above k marks
  pub word_add : (a k l : ℕ) → packed_of m a (k + l) ≡ packed_of m (a + k) l * 2 ^ k + packed_of m a k
  word_add a k zero = rw (add-zero, word_none (a + k), zero-mul, zero-add)
  word_add a k (suc l) =
      let B = bit (a + (k + l)) in
      let w = packed_of m (a + k) l in
      let s : a + (k + l) ≡ a + k + l = omega arith in
      let t : B * 2 ^ (k + l) ≡ B * 2 ^ l * 2 ^ k = ap (λ (z : ℕ). B * z) (pow-add 2 k l ∙ mul_comm (2 ^ k) (2 ^ l)) ∙ sym (mul_assoc B (2 ^ l) (2 ^ k)) in
      ap (packed_of m a) (add-suc k l)
      ∙ word_step a (k + l)
      ∙ ap₂ ◌+◌ t (word_add a k l)
      ∙ sym (add_assoc (B * 2 ^ l * 2 ^ k) (w * 2 ^ k) (packed_of m a k))
      ∙ ap (λ (z : ℕ). z + packed_of m a k) (sym (add-mul (B * 2 ^ l) w (2 ^ k)))
      ∙ ap (λ (z : ℕ). (pick (m z) 1 0 * 2 ^ l + w) * 2 ^ k + packed_of m a k) s
      ∙ ap (λ (z : ℕ). z * 2 ^ k + packed_of m a k) (sym (word_step (a + k) l))

  -- the bit i
  pub word_bit : (a k i : ℕ) → i < k → packed_of m a k / 2 ^ i % 2 ≡ bit (a + i)
  word_bit a k i h =
      let q : k ≡ i + 1 + (k - (i + 1)) = omega arith in
      let u = packed_of m (a + (i + 1)) (k - (i + 1)) in
      let B = bit (a + i) in
      let e : packed_of m a k ≡ (u * 2 + B) * 2 ^ i + packed_of m a i =
      ap (packed_of m a) q ∙ word_add a (i + 1) (k - (i + 1)) ∙ ap₂ (λ (x y : ℕ). u * x + y) (pow_suc' i) (word_more a i) ∙ joined u B (2 ^ i) (packed_of m a i) in
      ap (λ (z : ℕ). z / 2 ^ i % 2) e ∙ ap (λ (z : ℕ). z % 2) (high (u * 2 + B) i (word_lt a i)) ∙ low u B (bit_le (m (a + i)))
    where
      pow_suc' : (i : ℕ) → 2 ^ (i + 1) ≡ 2 * 2 ^ i
      pow_suc' i = ap (λ (z : ℕ). 2 ^ z) (add-one i) ∙ pow-suc 2 i ∙ mul_comm (2 ^ i) 2

      joined : (u b p w : ℕ) → u * (2 * p) + (b * p + w) ≡ (u * 2 + b) * p + w
      joined u b p w = omega (arith, add-mul (u * 2) b p, mul_assoc u 2 p)

      low : (u b : ℕ) → b ≤ 1 → (u * 2 + b) % 2 ≡ b
      low u b h = omega arith

  -- the count of a word's marks is that of its ones
  bit_ones : (i : ℕ) → ones (bit i) ≡ bit i
  unfolding ones pick
  bit_ones i = by (m i)
    where
      by : (b : Bool) → ones (pick b 1 0) ≡ pick b 1 0
      by true = refl
      by false = refl

  abbrev pub count_to : ℕ → ℕ
  count_to n = over_marked m (λ k i. k + 1) 0 n

  count_bit : (i : ℕ) → count_to (i + 1) ≡ count_to i + bit i
  count_bit i = by (m i) refl
    where
      by : (b : Bool) → m i ≡ b → count_to (i + 1) ≡ count_to i + bit i
      by true e = over_marked_lem m (λ k i. k + 1) 0 i e ∙ sym (ap (λ (z : ℕ). count_to i + z) (pick_true (m i) 1 0 e))
      by false e = over_passed m (λ k i. k + 1) 0 i e ∙ sym (ap (λ (z : ℕ). count_to i + z) (pick_false (m i) 1 0 e) ∙ add-zero (count_to i))

  pub word_count : (a k : ℕ) → count_to (a + k) ≡ count_to a + ones (packed_of m a k)
  unfolding ones
  word_count a zero = rw (word_none a, add-zero, add-zero)
  word_count a (suc k) =
      let e = count_bit (a + k) in
      let f = word_count a k in
      let g : ones (packed_of m a (suc k)) ≡ bit (a + k) + ones (packed_of m a k) = ap ones (word_step a k) ∙ ones_cat k (bit (a + k)) (packed_of m a k) (word_lt a k) ∙ ap (λ (z : ℕ). z + ones (packed_of m a k)) (bit_ones (a + k)) in
      let s : a + suc k ≡ a + k + 1 = omega arith in
      ap count_to s ∙ e ∙ ap (λ (z : ℕ). z + bit (a + k)) f ∙ omega (arith, g)
