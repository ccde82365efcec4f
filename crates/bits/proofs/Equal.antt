-- THE TWO FORMS OF MARKS ARE EQUAL, for every n; and so are those of the first q of n marks, while the others are still to come. Assumes nothing.
use Prim.Native.Nat.{ℕ, ◌≤◌, ◌<◌}
use mathlib.Core.Path.{◌≡◌, refl, sym, ap, ◌∙◌}
use mathlib.Core.Bool.{Bool, true, false, not}
use mathlib.Core.List.{List}
use native.Mathlib.Nat.{zero-add}
use native.Mathlib.Omega.{arith}
use lib.Dec.{eqb}
use lib.ListN.{length, get_or}
use lib.Seq.{ext_get_or}
use Rattle.lists.specs.Lists.{put, tab}
use Rattle.lists.specs.Marked.{pick, words_for}
use Rattle.lists.proofs.Fill.{get_d_fill}
use Rattle.lists.proofs.Grow.{get_d_tab, length_tab, tab_ext}
use Rattle.marks.specs.Marks.{on, count_on}
use Rattle.bits.specs.Words.{mark_word, words_of, bit_at, unpacked_of}
use Rattle.bits.specs.Packing.{words_to}
use Rattle.bits.specs.Equal.{BitIsMark, OnesAreCount, BytesBack}
use Rattle.bits.proofs.Words.{ones_all, bits_are, byte_bit, word_at_none}

-- no mark is there: all words are 0
pub words_none : (marks : List ℕ) (n : ℕ) → tab (words_for n) (λ _. 0) ≡ words_to marks n 0
unfolding words_to
words_none marks n = tab_ext (words_for n) _ _ (λ j h. sym (word_at_none (on marks) j))

-- all are
pub words_all : (marks : List ℕ) (n : ℕ) → words_to marks n n ≡ words_of marks n
unfolding words_to words_of
words_all marks n = refl

pub length_words_of : (marks : List ℕ) (n : ℕ) → length (words_of marks n) ≡ words_for n
unfolding words_of
length_words_of marks n = length_tab (words_for n) _

pub length_words : (marks : List ℕ) (n q : ℕ) → length (words_to marks n q) ≡ words_for n
unfolding words_to
length_words marks n q = length_tab (words_for n) _

not_zero : (b : Bool) → not (eqb (pick b 1 0) 0) ≡ b
unfolding pick
not_zero true = refl
not_zero false = refl

-- ---- the first q of n marks
module _ (marks xs : List ℕ) (n q : ℕ) (few : q ≤ n) (fits : words_for n ≤ length xs) (ws : List ℕ) (is : ws ≡ put xs 0 (words_to marks n q)) where
  word_is : (j : ℕ) → j < words_for n → get_or ws j 0 ≡ mark_word (on marks) q j
  unfolding words_to
  word_is j h = ap (λ (z : List ℕ). get_or z j 0) is ∙ ap (λ (i : ℕ). get_or (put xs 0 (words_to marks n q)) i 0) (sym (zero-add j)) ∙ get_d_fill xs 0 (words_for n) (mark_word (on marks) q) (omega arith) j 0 h

  pub byte_at : (i : ℕ) → i < q → get_or (unpacked_of ws n) i 0 ≡ pick (on marks i) 1 0
  unfolding unpacked_of
  byte_at i h = get_d_tab n i (bit_at ws) 0 (omega arith) ∙ bits_are (on marks) ws q (λ j l. word_is j (omega arith)) i h

  pub mark_at : (i : ℕ) → i < q → on (unpacked_of ws n) i ≡ on marks i
  mark_at i h = ap (λ (b : ℕ). not (eqb b 0)) (byte_at i h) ∙ not_zero (on marks i)

-- ---- all of them
module _ (marks xs : List ℕ) (n : ℕ) (fits : words_for n ≤ length xs) where
  abbrev held : List ℕ
  held = put xs 0 (words_of marks n)

  held_is : held ≡ put xs 0 (words_to marks n n)
  held_is = ap (put xs 0) (sym (words_all marks n))

  pub bytes_return : length marks ≡ n → ((i : ℕ) → i < n → get_or marks i 0 ≤ 1) → unpacked_of held n ≡ marks
  unfolding unpacked_of
  bytes_return l small =
      let k : length (unpacked_of held n) ≡ n = length_tab n (bit_at held) in
      ext_get_or 0 _ _ (k ∙ sym l) (λ i h. byte_at marks xs n n (omega arith) fits held held_is i (rw k at h) ∙ sym (byte_bit marks i (small i (rw k at h))))

pub bit_is_mark : BitIsMark
unfolding BitIsMark
bit_is_mark marks xs n fits = mark_at marks xs n n (omega arith) fits _ (held_is marks xs n fits)

pub ones_are_count : OnesAreCount
unfolding OnesAreCount count_on
ones_are_count marks xs n fits = ones_all (on marks) (put xs 0 (words_of marks n)) n (word_is marks xs n n (omega arith) fits _ (held_is marks xs n fits))

pub bytes_back : BytesBack
unfolding BytesBack
bytes_back = bytes_return
