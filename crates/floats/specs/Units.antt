-- The size of a finite f32 in units of 2 ^ -149, the smallest f32 above zero: every f32 is a whole number of them. Definitions only.
use Rattle.std.specs.Prelude.{Bool, false, ℕ, ◌+◌, ◌-◌, ◌*◌, ◌/◌, ◌%◌, ◌^◌, ltb, Float}
use Rattle.std.specs.Float.{nan, inf, fin}
use Rattle.std.specs.Float.Ieee.{up, down}
use Rattle.lists.specs.Marked.{pick}

-- of a value; of an infinity and of a NaN there is none, and 0 stands for it
unfoldable pub units_of : Float → ℕ
units_of nan = 0
units_of (inf s) = 0
units_of (fin s m e) = m * up e * 2 ^ 149 / down e

-- the sign of a value; that of a NaN is false
abbrev pub sign_of : Float → Bool
sign_of nan = false
sign_of (inf s) = s
sign_of (fin s m e) = s

-- of the value whose bit pattern is b, the sign's bit left out: below 2 ^ 23 it is subnormal
abbrev pub units_at : ℕ → ℕ
units_at b = pick (ltb b 8388608) b ((8388608 + b % 8388608) * 2 ^ (b / 8388608 - 1))
