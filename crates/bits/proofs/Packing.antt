-- The flags of a row into the words: those of one half of a word add up to their bits, and a stretch of them changes one word. Assumes nothing.
use Prim.Native.Nat.{ℕ, zero, suc, ◌+◌, ◌-◌, ◌*◌, ◌/◌, ◌%◌, ◌^◌, ◌≤◌, ◌<◌, min}
use mathlib.Core.Path.{◌≡◌, refl, sym, ap, ap₂, ◌∙◌, subst}
use mathlib.Core.Bool.{Bool, true, false, not}
use mathlib.Core.List.{List}
use native.Mathlib.Nat.{zero-add, add_comm, add-mul, mul_assoc, one-mul, zero-mul}
use native.Mathlib.Numerals.{add-one}
use native.Mathlib.Omega.{arith}
use lib.Bits.{bit_or, or_shifted_r}
use lib.Dec.{eqb}
use borrow.Author.Tests.{ne_eqb}
use lib.Pow.{shl_exact, pow-add, pow_pos}
use lib.ListN.{length, get_or, set}
use Rattle.lists.specs.Lists.{tab, put}
use Rattle.lists.specs.Marked.{pick, words_for}
use Rattle.lists.proofs.Fill.{get_d_fill}
use Rattle.marks.specs.Marks.{on}
use Rattle.bits.specs.Words.{packed_of, mark_word}
use Rattle.bits.specs.Packing.{flag_of, Flags, total_of, words_to, Packed}
use Rattle.bits.proofs.Bits.{word_none, word_step, word_lt}
use Rattle.bits.proofs.Words.{set_tab, word_at_same, word_at_other, word_agree}

-- ---- one stretch of marks within a word is stored
module _ (m : ℕ → Bool) (xs : List ℕ) (K p l : ℕ) (fits : K ≤ length xs) (inside : p + l ≤ K * 64) (some : 0 < l) (one : p % 64 + l ≤ 64) (bits : ℕ) (is : bits ≡ packed_of m p l * 2 ^ (p % 32)) where
  word_under : mark_word m p (p / 64) < 2 ^ (p % 64)
  unfolding mark_word
  word_under =
      let f : min 64 (p - p / 64 * 64) ≡ p % 64 = omega arith in
      subst (λ (k : ℕ). packed_of m (p / 64 * 64) k < 2 ^ (p % 64)) (sym f) (word_lt m (p / 64 * 64) (p % 64))

  -- the bits' half of the word makes up the rest of their shift
  whole_shift : bits * 2 ^ (p % 64 / 32 * 32) ≡ packed_of m p l * 2 ^ (p % 64)
  whole_shift =
      let half = p % 64 / 32 * 32 in
      let e : p % 32 + half ≡ p % 64 = omega arith in
      ap (λ (z : ℕ). z * 2 ^ half) is ∙ mul_assoc (packed_of m p l) (2 ^ (p % 32)) (2 ^ half) ∙ ap (λ (z : ℕ). packed_of m p l * z) (sym (pow-add 2 (p % 32) half) ∙ ap (λ (z : ℕ). 2 ^ z) e)

  shifted : (bits * 2 ^ (p % 64 / 32 * 32)) % 2 ^ 64 ≡ packed_of m p l * 2 ^ (p % 64)
  shifted = ap (λ (z : ℕ). z % 2 ^ 64) whole_shift ∙ shl_exact l (p % 64) 64 (word_lt m p l) (omega arith)

  pub pack_more : (ws : List ℕ) → ws ≡ put xs 0 (tab K (mark_word m p)) →
      set ws (p / 64) (bit_or (get_or ws (p / 64) 0) ((bits * 2 ^ (p % 64 / 32 * 32)) % 2 ^ 64)) ≡ put xs 0 (tab K (mark_word m (p + l)))
  pack_more ws e =
      let j = p / 64 in
      let J : j < K = omega arith in
      let old : get_or ws j 0 ≡ mark_word m p j = ap (λ (z : List ℕ). get_or z j 0) e ∙ ap (λ (i : ℕ). get_or (put xs 0 (tab K (mark_word m p))) i 0) (sym (zero-add j)) ∙ get_d_fill xs 0 K (mark_word m p) (omega arith) j 0 J in
      let new : bit_or (get_or ws j 0) ((bits * 2 ^ (p % 64 / 32 * 32)) % 2 ^ 64) ≡ mark_word m (p + l) j =
      ap₂ bit_or old shifted ∙ or_shifted_r (packed_of m p l) (p % 64) (mark_word m p j) word_under ∙ sym (word_at_same m p l one) in
      ap (λ (z : List ℕ). set z j (bit_or (get_or ws j 0) ((bits * 2 ^ (p % 64 / 32 * 32)) % 2 ^ 64))) e
      ∙ set_tab xs K (mark_word m p) (mark_word m (p + l)) fits j _ 0 J new (λ i h d. word_at_other m p l i one d)

-- ---- the flags of pixels within one half of a word add up to their bits
module _ (flags : List ℕ) (p len : ℕ) (f : Flags flags p len) (x : ℕ) where
  flag_is : (k : ℕ) → x + k < len → (p + x) % 32 + k < 32 → get_or flags (x + k) 0 ≡ pick (on flags (x + k)) 1 0 * 2 ^ k * 2 ^ ((p + x) % 32)
  unfolding flag_of pick
  flag_is k h l =
      let e : (p + (x + k)) % 32 ≡ k + (p + x) % 32 = omega arith in
      f.are (x + k) h
      ∙ ap (λ (z : ℕ). pick (on flags (x + k)) (2 ^ z) 0) e
      ∙ ap (λ (z : ℕ). pick (on flags (x + k)) z 0) (pow-add 2 k ((p + x) % 32))
      ∙ weighed (on flags (x + k)) (2 ^ k) (2 ^ ((p + x) % 32))
    where
      weighed : (b : Bool) (u v : ℕ) → pick b (u * v) 0 ≡ pick b 1 0 * u * v
      weighed true u v = sym (ap (λ (z : ℕ). z * v) (one-mul u))
      weighed false u v = sym (ap (λ (z : ℕ). z * v) (zero-mul u) ∙ zero-mul v)

  pub total_is : (k : ℕ) → x + k ≤ len → (p + x) % 32 + k ≤ 32 → total_of flags x k ≡ packed_of (on flags) x k * 2 ^ ((p + x) % 32)
  unfolding total_of
  total_is zero h l = sym (ap (λ (z : ℕ). z * 2 ^ ((p + x) % 32)) (word_none (on flags) x) ∙ zero-mul (2 ^ ((p + x) % 32)))
  total_is (suc k) h l =
      let B = pick (on flags (x + k)) 1 0 * 2 ^ k in
      let w = packed_of (on flags) x k in
      let s = 2 ^ ((p + x) % 32) in
      ap₂ ◌+◌ (total_is k (omega arith) (omega arith)) (flag_is k (omega arith) (omega arith)) ∙ add_comm (w * s) (B * s) ∙ sym (add-mul B w s) ∙ ap (λ (z : ℕ). z * s) (sym (word_step (on flags) x k))

pub total_none : (flags : List ℕ) (a : ℕ) → 0 ≡ total_of flags a 0
unfolding total_of
total_none flags a = refl

pub total_more : (flags : List ℕ) (a k : ℕ) → total_of flags a k + get_or flags (a + k) 0 ≡ total_of flags a (k + 1)
unfolding total_of
total_more flags a k = rw add-one

-- ---- the flags of pixels that are marked or not
not_none : (v : ℕ) → 0 < v → not (eqb v 0) ≡ true
not_none v h = ap not (ne_eqb v 0 (λ e. omega arith))

-- a flag is not 0 where the pixel is marked
pub flag_on : (b : Bool) (q : ℕ) → not (eqb (flag_of b q) 0) ≡ b
unfolding flag_of pick
flag_on true q = not_none (2 ^ (q % 32)) (pow_pos (q % 32))
flag_on false q = refl

module _ (flags : List ℕ) (p len : ℕ) (b : ℕ → Bool) (are : (x : ℕ) → x < len → get_or flags x 0 ≡ flag_of (b x) (p + x)) where
  pub flags_on : (x : ℕ) → x < len → on flags x ≡ b x
  flags_on x h = ap (λ (v : ℕ). not (eqb v 0)) (are x h) ∙ flag_on (b x) (p + x)

  pub flags_are : Flags flags p len
  flags_are = record { are = λ x h. are x h ∙ ap (λ (t : Bool). flag_of t (p + x)) (sym (flags_on x h)) }

-- ---- a row, a stretch at a time
pub packed_more : (flags ws₀ ws : List ℕ) (p x l bits half : ℕ) → 0 < l → (p + x) % 64 + l ≤ 64 → bits ≡ packed_of (on flags) x l * 2 ^ ((p + x) % 32) → half ≡ (p + x) % 64 / 32 * 32 → Packed flags p x ws₀ ws →
    Packed flags p (x + l) ws₀ (set ws ((p + x) / 64) (bit_or (get_or ws ((p + x) / 64) 0) ((bits * 2 ^ half) % 2 ^ 64)))
unfolding words_to
packed_more flags ws₀ ws p x l bits half some one is up q =
    rw up (record {
      packs = λ marks xs n f r a e.
          let m = on marks in
          let k = words_for n in
          let z = q.packs marks xs n f (omega arith) (λ i h. a i (omega arith)) e in
          let here : (i : ℕ) → i < l → on flags (x + i) ≡ m (p + x + i) = λ i h. sym (a (x + i) (omega arith)) ∙ ap m (assoc p x i) in
          pack_more m xs k (p + x) l f (omega arith) some one bits (is ∙ ap (λ (z : ℕ). z * 2 ^ ((p + x) % 32)) (word_agree (on flags) m x (p + x) l here)) ws z ∙ ap (λ (n : ℕ). put xs 0 (tab k (mark_word m n))) (sym (assoc p x l));
    })
  where
    assoc : (p x i : ℕ) → p + (x + i) ≡ p + x + i
    assoc p x i = omega arith
