-- A whole number in three digits of 60 bits, and what a bit pattern has of it. Definitions only, of what the parts of `motion` do.
use Rattle.std.specs.Prelude.{Bool, ℕ, ◌+◌, ◌*◌, ◌%◌, ◌^◌, ◌<◌, leb}
use Rattle.std.specs.Float.Ieee.{unlike}
use Rattle.lists.specs.Marked.{pick}
use Rattle.floats.specs.Units.{units_at}
use Rattle.middle.specs.declared.Wide.{Wide}

-- the two lower digits
abbrev pub lower_of : Wide → ℕ
lower_of x = x.mid * 2 ^ 60 + x.low

-- the number
abbrev pub wide_of : Wide → ℕ
wide_of x = x.high * 2 ^ 120 + lower_of x

-- each of the two lower digits has 60 bits at most
abbrev pub Tidy : Wide → Type 0
Tidy x = (x.mid < 2 ^ 60) × (x.low < 2 ^ 60)

-- the size in units of a value, by its bit pattern, if its sign is `back`, and else 0
abbrev pub pattern_share : Bool → ℕ → ℕ
pattern_share back b = pick (unlike (leb 2147483648 b) back) 0 (units_at (b % 2147483648))
