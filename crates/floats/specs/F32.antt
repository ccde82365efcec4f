-- f32's operators as Rust writes them, each rounded once, and its constants by their bits, as the code's literals are. Definitions only.
use Rattle.std.specs.Prelude.{ℕ, pos, Float}
use Rattle.std.specs.Float.{binary32}
use Rattle.std.specs.Float.Ieee.{add, sub, mul, div, of_int, of_bits}

infixl 60 ◌⊕◌ ◌⊖◌
infixl 70 ◌⊗◌ ◌⊘◌
-- x + y, x - y, x * y and x / y
abbrev pub ◌⊕◌ : Float → Float → Float
x ⊕ y = add binary32 x y

abbrev pub ◌⊖◌ : Float → Float → Float
x ⊖ y = sub binary32 x y

abbrev pub ◌⊗◌ : Float → Float → Float
x ⊗ y = mul binary32 x y

abbrev pub ◌⊘◌ : Float → Float → Float
x ⊘ y = div binary32 x y

-- n as f32
abbrev pub f32 : ℕ → Float
f32 n = of_int binary32 (pos n)

-- 0.0, 1.0, 0.5 and 2.0
abbrev pub 0f : Float
0f = of_bits binary32 0

abbrev pub 1f : Float
1f = of_bits binary32 0x3f80_0000

abbrev pub half : Float
half = of_bits binary32 0x3f00_0000

abbrev pub 2f : Float
2f = of_bits binary32 0x4000_0000
