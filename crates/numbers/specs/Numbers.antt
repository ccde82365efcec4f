-- Whole numbers near an f32, and its size: IEEE 754-2019's abs, roundToIntegralTowardNegative and roundToIntegralTiesToAway. Definitions only.
-- A finite value is m * up e / down e with a sign. `round binary32 s n 1` is the whole number n as an f32 with the sign s: an answer keeps the
-- sign of its argument, so that of a zero too.
use Rattle.std.specs.Prelude.{ℕ, ◌+◌, ◌-◌, ◌*◌, ◌/◌, ◌≡◌, true, false, is_nan, Float}
use Rattle.std.specs.Float.{nan, inf, fin, binary32}
use Rattle.std.specs.Float.Ieee.{up, down, round, lt}
use Rattle.lists.specs.Marked.{pick}

-- the size: the sign cleared
unfoldable pub abs_of : Float → Float
abs_of nan = nan
abs_of (inf s) = inf false
abs_of (fin s m e) = fin false m e

-- the largest whole number that is not above: of a value below zero its size goes up
unfoldable pub floor_of : Float → Float
floor_of nan = nan
floor_of (inf s) = inf s
floor_of (fin false m e) = round binary32 false (m * up e / down e) 1
floor_of (fin true m e) = round binary32 true ((m * up e + (down e - 1)) / down e) 1

-- the nearest whole number to the size of a finite value, a half going up
unfoldable pub nearest_of : Float → ℕ
nearest_of nan = 0
nearest_of (inf s) = 0
nearest_of (fin s m e) = (2 * (m * up e) + down e) / (2 * down e)

-- the nearest whole number, half away from zero
unfoldable pub round_of : Float → Float
unfolding nearest_of
round_of nan = nan
round_of (inf s) = inf s
round_of (fin s m e) = round binary32 s (nearest_of (fin s m e)) 1

-- Rust's `max`: the larger, and where one is a NaN the other
unfoldable pub max_of : Float → Float → Float
unfolding pick
max_of x y = pick (is_nan x) y (pick (lt x y) y x)

-- finite, and the sign's bit is clear
abbrev pub Unsigned : Float → Type 0
Unsigned nan = ⊥
Unsigned (inf s) = ⊥
Unsigned (fin s m e) = s ≡ false
