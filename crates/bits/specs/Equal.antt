-- THE TWO FORMS OF MARKS ARE EQUAL, for every n. Definitions only.
use Rattle.std.specs.Prelude.{ℕ, ◌≤◌, ◌<◌, ◌≡◌, List, length, get_or}
use Rattle.lists.specs.Lists.{put}
use Rattle.lists.specs.Marked.{words_for}
use Rattle.marks.specs.Marks.{on, count_on}
use Rattle.bits.specs.Words.{words_of, unpacked_of, ones_of}

-- whatever the lent words held before: once they stand for the first n marks, a bit that is read from them is the byte's mark
unfoldable pub BitIsMark : Type 0
BitIsMark = (marks xs : List ℕ) (n : ℕ) → words_for n ≤ length xs → (i : ℕ) → i < n → on (unpacked_of (put xs 0 (words_of marks n)) n) i ≡ on marks i

-- and the ones of the words that n marks need are as many as the marks
unfoldable pub OnesAreCount : Type 0
OnesAreCount = (marks xs : List ℕ) (n : ℕ) → words_for n ≤ length xs → ones_of (put xs 0 (words_of marks n)) (words_for n) ≡ count_on marks n

-- n marks that are 0 or 1 come back as they were
unfoldable pub BytesBack : Type 0
BytesBack = (marks xs : List ℕ) (n : ℕ) → words_for n ≤ length xs → length marks ≡ n → ((i : ℕ) → i < n → get_or marks i 0 ≤ 1) →
    unpacked_of (put xs 0 (words_of marks n)) n ≡ marks
