-- Marks in words: sixty-four to a word, pixel i in bit i mod 64 of word i div 64, unused top bits 0. The byte form stays the definition of
-- the marks; here is which words stand for which bytes. Definitions only.
use Rattle.std.specs.Prelude.{ℕ, zero, suc, ◌+◌, ◌-◌, ◌*◌, ◌/◌, ◌%◌, ◌^◌, min, Bool, List, get_or}
use Rattle.std.specs.Int.Count.{ones}
use Rattle.lists.specs.Lists.{tab}
use Rattle.lists.specs.Marked.{pick, words_for}
use Rattle.marks.specs.Marks.{on}

-- the k marks from a on as one number: the mark a + i in bit i
unfoldable pub packed_of : (ℕ → Bool) → ℕ → ℕ → ℕ
packed_of m a zero = 0
packed_of m a (suc k) = pick (m (a + k)) 1 0 * 2 ^ k + packed_of m a k

-- the word j of the first n marks: the marks from 64 * j on, at most 64 of them; all other bits are 0
unfoldable pub mark_word : (ℕ → Bool) → ℕ → ℕ → ℕ
mark_word m n j = packed_of m (j * 64) (min 64 (n - j * 64))

-- the words that stand for the first n marks
unfoldable pub words_of : List ℕ → ℕ → List ℕ
words_of marks n = tab (words_for n) (mark_word (on marks) n)

-- the bit of pixel i
unfoldable pub bit_at : List ℕ → ℕ → ℕ
bit_at ws i = get_or ws (i / 64) 0 / 2 ^ (i % 64) % 2

-- the first n marks that the words stand for, a byte each
unfoldable pub unpacked_of : List ℕ → ℕ → List ℕ
unpacked_of ws n = tab n (bit_at ws)

-- the ones of the first k words
unfoldable pub ones_of : List ℕ → ℕ → ℕ
ones_of ws zero = 0
ones_of ws (suc k) = ones_of ws k + ones (get_or ws k 0)
