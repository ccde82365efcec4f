-- A fraction to the nearest whole number, half away from zero, held to -32768..32767. Definitions only: nothing is rounded but the last quotient.
use Rattle.std.specs.Prelude.{Bool, true, false, ℕ, ◌+◌, ◌-◌, ◌*◌, ◌/◌, min, ltb, ℤ, pos, neg_ℤ}
use Rattle.lists.specs.Marked.{pick}

-- a size with its sign, held to -32768..32767
abbrev pub capped_of : Bool → ℕ → ℤ
capped_of true n = neg_ℤ (pos (min n 32768))
capped_of false n = pos (min n 32767)

-- n / d to the nearest whole number, half up
abbrev pub nearest_whole : ℕ → ℕ → ℕ
nearest_whole n d = (2 * n + d) / (2 * d)

-- n / d with its sign, to the nearest whole number, half away from zero, held
unfoldable pub nearest_capped : Bool → ℕ → ℕ → ℤ
nearest_capped s n d = capped_of s (nearest_whole n d)

-- (g - l) / d, the same
unfoldable pub difference_of : ℕ → ℕ → ℕ → ℤ
unfolding nearest_capped
difference_of g l d = pick (ltb g l) (nearest_capped true (l - g) d) (nearest_capped false (g - l) d)
