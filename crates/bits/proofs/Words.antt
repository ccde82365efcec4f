-- The words of a run of marks: their bits are the marks, their ones the count, and a few more marks change one word. Assumes nothing.
use Prim.Native.Nat.{ℕ, zero, suc, ◌+◌, ◌-◌, ◌*◌, ◌/◌, ◌%◌, ◌^◌, ◌≤◌, ◌<◌, min}
use mathlib.Core.Path.{◌≡◌, refl, sym, ap, ap₂, ◌∙◌}
use mathlib.Core.Bool.{Bool, true, false, not}
use mathlib.Core.List.{List}
use native.Mathlib.Nat.{zero-add}
use native.Mathlib.Numerals.{add-one}
use native.Mathlib.Omega.{arith}
use lib.Count.{ones}
use lib.Dec.{eqb, ltb}
use lib.ListN.{length, get_or, set, take, length-set}
use Rattle.std.proofs.lemmas.List.{get_or-take, length-take}
use lib.Seq.{get_or-set_same, get_or-set_other, ext_get_or}
use borrow.Author.Tests.{eqb-true, eqb-false, ltb-true, ltb-false}
use Rattle.lists.specs.Lists.{tab, put}
use Rattle.lists.specs.Marked.{pick, words_for}
use Rattle.lists.proofs.Fill.{length_fill, fill_after, get_d_fill}
use Rattle.lists.proofs.Fold.{over_none}
use Rattle.marks.specs.Marks.{on}
use Rattle.bits.specs.Words.{bit_at, packed_of, mark_word, ones_of}
use Rattle.bits.proofs.Bits.{bit, word_bit, word_add, word_none, word_step, word_count, count_to}

-- what stands in the first e words stands in all
pub taken : (e : ℕ) (ws : List ℕ) (i : ℕ) → i < length (take e ws) → get_or (take e ws) i 0 ≡ get_or ws i 0
taken e ws i h = get_or-take e ws i 0 (omega (arith, length-take {A = ℕ}))

-- a store that changes one element of a rule
module _ {A : Type 0} (xs : List A) (k : ℕ) (f g : ℕ → A) (fits : k ≤ length xs) (j : ℕ) (v : A) (d : A) (J : j < k) (here : v ≡ g j) (else : (i : ℕ) → i < k → (i ≡ j → ⊥) → f i ≡ g i) where
  pub set_tab : set (put xs 0 (tab k f)) j v ≡ put xs 0 (tab k g)
  set_tab =
      let l : length (put xs 0 (tab k f)) ≡ length xs = length_fill xs 0 f k (omega arith) in
      let l' : length (put xs 0 (tab k g)) ≡ length xs = length_fill xs 0 g k (omega arith) in
      ext_get_or d _ _ (simp length-set (l ∙ sym l')) (λ i h. at i (eqb i j) refl (ltb i k) refl)
    where
      in_front : (h : ℕ → A) (i : ℕ) → i < k → get_or (put xs 0 (tab k h)) i d ≡ h i
      in_front h i l = ap (λ (z : ℕ). get_or (put xs 0 (tab k h)) z d) (sym (zero-add i)) ∙ get_d_fill xs 0 k h (omega arith) i d l

      at : (i : ℕ) (b : Bool) → eqb i j ≡ b → (t : Bool) → ltb i k ≡ t → get_or (set (put xs 0 (tab k f)) j v) i d ≡ get_or (put xs 0 (tab k g)) i d
      at i true e t q =
          let same : i ≡ j = eqb-true i j e in
          let l : length (put xs 0 (tab k f)) ≡ length xs = length_fill xs 0 f k (omega arith) in
          ap (λ (z : ℕ). get_or (set (put xs 0 (tab k f)) j v) z d) same
          ∙ get_or-set_same (put xs 0 (tab k f)) j v d (omega arith)
          ∙ here
          ∙ sym (ap (λ (z : ℕ). get_or (put xs 0 (tab k g)) z d) same ∙ in_front g j J)
      at i false e true q =
          get_or-set_other (put xs 0 (tab k f)) j i v d (eqb-false i j e)
          ∙ in_front f i (ltb-true i k q)
          ∙ else i (ltb-true i k q) (eqb-false i j e)
          ∙ sym (in_front g i (ltb-true i k q))
      at i false e false q =
          let past = ltb-false i k q in
          get_or-set_other (put xs 0 (tab k f)) j i v d (eqb-false i j e)
          ∙ fill_after xs 0 f k (omega arith) i d (omega arith)
          ∙ sym (fill_after xs 0 g k (omega arith) i d (omega arith))

module _ (m : ℕ → Bool) where
  -- ---- one word of the first n marks
  pub word_at_bit : (n i : ℕ) → i < n → mark_word m n (i / 64) / 2 ^ (i % 64) % 2 ≡ bit m i
  unfolding mark_word
  word_at_bit n i h =
      let e : i / 64 * 64 + i % 64 ≡ i = omega arith in
      word_bit m (i / 64 * 64) (min 64 (n - i / 64 * 64)) (i % 64) (omega arith) ∙ ap (bit m) e

  -- l more marks go to the word of the first of them
  pub word_at_same : (p l : ℕ) → p % 64 + l ≤ 64 → mark_word m (p + l) (p / 64) ≡ packed_of m p l * 2 ^ (p % 64) + mark_word m p (p / 64)
  unfolding mark_word
  word_at_same p l h =
      let a = p / 64 * 64 in
      let k = p % 64 in
      let e : min 64 (p + l - a) ≡ k + l = omega arith in
      let f : min 64 (p - a) ≡ k = omega arith in
      let g : a + k ≡ p = omega arith in
      ap (packed_of m a) e ∙ word_add m a k l ∙ ap₂ (λ (x y : ℕ). packed_of m x l * 2 ^ k + packed_of m a y) g (sym f)

  pub word_at_other : (p l j : ℕ) → p % 64 + l ≤ 64 → (j ≡ p / 64 → ⊥) → mark_word m p j ≡ mark_word m (p + l) j
  unfolding mark_word
  word_at_other p l j h d =
      let e : min 64 (p - j * 64) ≡ min 64 (p + l - j * 64) = omega arith in
      ap (packed_of m (j * 64)) e

  pub word_at_none : (j : ℕ) → mark_word m 0 j ≡ 0
  unfolding mark_word
  word_at_none j =
      let e : min 64 (0 - j * 64) ≡ 0 = omega arith in
      ap (packed_of m (j * 64)) e ∙ word_none m (j * 64)

  -- ---- the count is that of the ones
  module _ (ws : List ℕ) (n : ℕ) (is : (j : ℕ) → j < words_for n → get_or ws j 0 ≡ mark_word m n j) where
    pub ones_count : (k : ℕ) → k ≤ words_for n → ones_of ws k ≡ count_to m (min n (k * 64))
    unfolding ones_of mark_word
    ones_count zero h =
        let e : min n (0 * 64) ≡ 0 = omega arith in
        sym (ap (count_to m) e ∙ over_none m (λ k i. k + 1) 0)
    ones_count (suc k) h =
        let l = min 64 (n - k * 64) in
        let e : min n (k * 64) ≡ k * 64 = omega arith in
        let f : k * 64 + l ≡ min n (suc k * 64) = omega arith in
        ap₂ ◌+◌ (ones_count k (omega arith) ∙ ap (count_to m) e) (ap ones (is k (omega arith)))
        ∙ sym (word_count m (k * 64) l)
        ∙ ap (count_to m) f

    pub ones_all : ones_of ws (words_for n) ≡ count_to m n
    ones_all =
        let e : min n (words_for n * 64) ≡ n = omega arith in
        ones_count (words_for n) (omega arith) ∙ ap (count_to m) e

    -- ---- the bits are the marks
    pub bits_are : (i : ℕ) → i < n → bit_at ws i ≡ bit m i
    unfolding bit_at
    bits_are i h = ap (λ (z : ℕ). z / 2 ^ (i % 64) % 2) (is (i / 64) (omega arith)) ∙ word_at_bit n i h

-- the same marks, at other places
pub word_agree : (m m' : ℕ → Bool) (a b k : ℕ) → ((i : ℕ) → i < k → m (a + i) ≡ m' (b + i)) → packed_of m a k ≡ packed_of m' b k
word_agree m m' a b zero e = word_none m a ∙ sym (word_none m' b)
word_agree m m' a b (suc k) e =
    word_step m a k
    ∙ ap₂ (λ (t : Bool) (w : ℕ). pick t 1 0 * 2 ^ k + w) (e k (omega arith)) (word_agree m m' a b k (λ i l. e i (omega arith)))
    ∙ sym (word_step m' b k)

pub ones_more : (ws : List ℕ) (k : ℕ) → ones_of ws k + ones (get_or ws k 0) ≡ ones_of ws (k + 1)
unfolding ones_of
ones_more ws k = rw add-one

pub ones_none : (ws : List ℕ) → 0 ≡ ones_of ws 0
unfolding ones_of
ones_none ws = refl

-- a byte that is 0 or 1 is the bit of its mark
pub byte_bit : (ms : List ℕ) (i : ℕ) → get_or ms i 0 ≤ 1 → get_or ms i 0 ≡ pick (on ms i) 1 0
unfolding pick
byte_bit ms i h = by (get_or ms i 0) h
  where
    by : (b : ℕ) → b ≤ 1 → b ≡ pick (not (eqb b 0)) 1 0
    by zero l = refl
    by (suc zero) l = refl
    by (suc (suc b)) l = absurd (many b l)
      where
        many : (b : ℕ) → suc (suc b) ≤ 1 → ⊥
        many b h = omega arith
