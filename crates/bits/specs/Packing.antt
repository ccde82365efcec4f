-- A row's marks on their way into the words: a number for each pixel, which is its bit within its half of a word. Definitions only.
use Rattle.std.specs.Prelude.{ℕ, zero, suc, ◌+◌, ◌%◌, ◌^◌, ◌≤◌, ◌<◌, ◌≡◌, Bool, List, length, get_or}
use Rattle.lists.specs.Lists.{tab, put}
use Rattle.lists.specs.Marked.{pick, words_for}
use Rattle.marks.specs.Marks.{on}
use Rattle.bits.specs.Words.{mark_word}

-- the flag of pixel q: 0, or where it is marked its bit within the 32 bits of its half of a word
unfoldable pub flag_of : Bool → ℕ → ℕ
flag_of marked q = pick marked (2 ^ (q % 32)) 0

-- the first len flags are those of the pixels from p on, marked or not
pub record Flags (flags : List ℕ) (p len : ℕ) : Type 0 where
  pub are : (x : ℕ) → x < len → get_or flags x 0 ≡ flag_of (on flags x) (p + x)

-- the sum of the k numbers from a on
unfoldable pub total_of : List ℕ → ℕ → ℕ → ℕ
total_of flags a zero = 0
total_of flags a (suc k) = total_of flags a k + get_or flags (a + k) 0

-- the words that n marks need, with the first q of them and no other bit
unfoldable pub words_to : List ℕ → ℕ → ℕ → List ℕ
words_to marks n q = tab (words_for n) (mark_word (on marks) q)

-- the marks of the len pixels from p on, stored behind those that the words hold: whichever marks they are, so long as those of the pixels from
-- p on are the flags'
pub record Packed (flags : List ℕ) (p len : ℕ) (ws ws' : List ℕ) : Type 0 where
  pub packs : (marks xs : List ℕ) (n : ℕ) → words_for n ≤ length xs → p + len ≤ n → ((x : ℕ) → x < len → on marks (p + x) ≡ on flags x) →
      ws ≡ put xs 0 (words_to marks n p) → ws' ≡ put xs 0 (words_to marks n (p + len))
