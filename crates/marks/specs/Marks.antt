-- Marks, a byte for each pixel, and their count. Definitions only.
use Rattle.std.specs.Prelude.{ℕ, Bool, not, List, eqb, get_or}
use Rattle.lists.specs.Marked.{count_marked}

-- the place i is marked: its byte is not 0
abbrev pub on : List ℕ → ℕ → Bool
on marks i = not (eqb (get_or marks i 0) 0)

-- how many of the first n places are marked
unfoldable pub count_on : List ℕ → ℕ → ℕ
count_on marks n = count_marked (on marks) n
