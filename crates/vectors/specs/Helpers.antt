-- When a vector of a number helper agrees with the definitions. The words are the kind, the argument, the answer. Definitions only.
use Rattle.std.specs.Prelude.{ℕ, ◌^◌, Bool, ◌&&◌, List, [], ◌∷◌, leb, eqb}
use Rattle.std.specs.Float.{binary32}
use Rattle.std.specs.Float.Ieee.{of_bits, neg, le, to_unsigned}
use Rattle.std.specs.Float.Ieee.Scale.{finite}
use Rattle.lists.specs.Marked.{pick}
use Rattle.floats.specs.F32.{f32, 0f, 2f}
use Rattle.numbers.specs.Numbers.{abs_of, floor_of, round_of}
use Rattle.root.specs.Root.{sqrt_of}
use Rattle.series.specs.Series.{cos_of, sin_of, exp_neg_of}
use Rattle.words.specs.Words.{stored_at, float_of, has_bits}
use Rattle.vectors.specs.Kinds.{of_kind}

-- cosine and sine are for -2..2, e^-a is for 0..6, a whole number becomes an f32 up to 2^24; a vector outside does not agree
abbrev pub helper_table : List ℕ → List (ℕ × Bool)
helper_table words =
    let a = stored_at words 1 in
    let x = float_of a in
    let w = stored_at words 2 in
    (1, has_bits (sqrt_of x) w)
    ∷ (2, le x 2f && le (neg 2f) x && has_bits (cos_of x) w)
    ∷ (3, le x 2f && le (neg 2f) x && has_bits (sin_of x) w)
    ∷ (4, le x (of_bits binary32 0x40c0_0000) && le 0f x && has_bits (exp_neg_of x) w)
    ∷ (5, has_bits (floor_of x) w)
    ∷ (6, has_bits (round_of x) w)
    ∷ (7, has_bits (abs_of x) w)
    ∷ (8, eqb (pick (finite x) 1 0) w)
    ∷ (9, leb a (2 ^ 24) && has_bits (f32 a) w)
    ∷ (10, eqb (to_unsigned 64 x) w)
    ∷ []

unfoldable pub helper_agrees : ℕ → List ℕ → Bool
helper_agrees kind words = of_kind kind (helper_table words)
