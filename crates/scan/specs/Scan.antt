-- A whole number in decimal at some place of a list of bytes. Definitions only.
use Rattle.std.specs.Prelude.{ℕ, suc, ◌+◌, ◌-◌, ◌*◌, min, Bool, ◌&&◌, List, [], ◌∷◌, leb, drop}
use Rattle.lists.specs.Marked.{pick}
use Rattle.scan.specs.declared.Digits.{Digits}

-- '0' to '9'
unfoldable pub is_digit : ℕ → Bool
is_digit b = leb 48 b && leb b 57

-- how many digits stand at the start
unfoldable pub count_of : List ℕ → ℕ
count_of [] = 0
count_of (b ∷ s) = pick (is_digit b) (suc (count_of s)) 0

-- the number v with the digits at the start behind it
unfoldable pub value_of : ℕ → List ℕ → ℕ
value_of v [] = v
value_of v (b ∷ s) = pick (is_digit b) (value_of (10 * v + (b - 48)) s) v

-- the digits from a on: the number that they make behind v, or `most` where it is more, and the index after them
unfoldable pub digits_at : List ℕ → ℕ → ℕ → ℕ → Digits
digits_at s a v most = record { value = min (value_of v (drop a s)) most; next = a + count_of (drop a s) }
