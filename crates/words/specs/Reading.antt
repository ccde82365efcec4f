-- A line of words as it is read, byte after byte: hexadecimal numbers up to 64 bits with a blank between two, `#` before what is passed
-- over. Definitions only.
use Rattle.std.specs.Prelude.{ℕ, ◌+◌, ◌-◌, ◌*◌, ◌%◌, ◌^◌, Bool, true, false, ◌&&◌, List, leb, ltb, eqb, length, set}
use Rattle.lists.specs.Marked.{pick}
use Rattle.words.specs.declared.line.Line.{Line}

-- a hexadecimal digit's value, 0 for any other byte: '0' is 48 and '9' 57, 'a' is 97 and 'f' 102
unfoldable pub digit_of : ℕ → ℕ
digit_of b = pick (leb 48 b && leb b 57) (b - 48) (pick (leb 97 b && leb b 102) (b - 87) 0)

-- no word is read
abbrev pub no_word : Line
no_word = record { count = 0; value = 0; «open» = false; skip = false }

-- a word is open, and one more has room
abbrev pub is_put : Line → ℕ → Bool
is_put l room = l.«open» && ltb l.count room

-- the line and the words once the open word is put away
unfoldable pub closed_of : Line → ℕ → Line
closed_of l room = pick (is_put l room) (record { count = l.count + 1; value = 0; «open» = false; skip = l.skip }) l

unfoldable pub closed_in : Line → List ℕ → List ℕ
closed_in l words = pick (is_put l (length words)) (set words l.count l.value) words

-- the line and the words after one byte more: a blank (32) and `#` (35) end a word, any other byte is its next digit
unfoldable pub line_after : Line → ℕ → ℕ → Line
line_after l room b =
    pick l.skip l
    (pick (eqb b 32) (closed_of l room)
    (pick (eqb b 35) (record { count = (closed_of l room).count; value = 0; «open» = false; skip = true })
    (record { count = l.count; value = l.value % 2 ^ 60 * 16 + digit_of b; «open» = true; skip = false })))

unfoldable pub words_after : Line → ℕ → List ℕ → List ℕ
words_after l b words = pick l.skip words (pick (eqb b 32) (closed_in l words) (pick (eqb b 35) (closed_in l words) words))
