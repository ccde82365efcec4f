-- A table of kinds: what is to hold for a vector of each, by its number. Definitions only.
use Rattle.std.specs.Prelude.{ℕ, ◌≡◌, Bool, false, List, [], ◌∷◌, eqb, codes, Result, MatchResult}
use Rattle.lists.specs.Marked.{pick}
use Rattle.vectors.specs.declared.kinds.Kind.{Kind}
use Rattle.vectors.specs.declared.kinds.Kind.TheVariants.{Sqrt, Cos, Sin, ExpNeg, Floor, Round, Abs, IsFinite, ToF32, AsUsize, Sides, Resize, Kernel, Blur, GradientX, GradientY, Prepare, Warp, Stats, TryInverse, Call, Pins, Rows}
use Rattle.vectors.specs.declared.kinds.UnknownKind.{UnknownKind}

-- the entry of a kind; false where the table has none
abbrev pub of_kind : ℕ → List (ℕ × Bool) → Bool
of_kind kind [] = false
of_kind kind (entry ∷ rest) = pick (eqb kind entry.0) entry.1 (of_kind kind rest)

-- a kind's number in a stored vector
abbrev pub number_of : Kind → ℕ
number_of Sqrt = 1
number_of Cos = 2
number_of Sin = 3
number_of ExpNeg = 4
number_of Floor = 5
number_of Round = 6
number_of Abs = 7
number_of IsFinite = 8
number_of ToF32 = 9
number_of AsUsize = 10
number_of Sides = 16
number_of Resize = 17
number_of Kernel = 18
number_of Blur = 19
number_of GradientX = 20
number_of GradientY = 21
number_of Prepare = 22
number_of Warp = 23
number_of Stats = 24
number_of TryInverse = 25
number_of Call = 26
number_of Pins = 27
number_of Rows = 28

-- its name, as replay prints it
abbrev pub kind_text : Kind → List ℕ
kind_text Sqrt = codes "sqrt"
kind_text Cos = codes "cos"
kind_text Sin = codes "sin"
kind_text ExpNeg = codes "exp_neg"
kind_text Floor = codes "floor"
kind_text Round = codes "round"
kind_text Abs = codes "abs"
kind_text IsFinite = codes "is_finite"
kind_text ToF32 = codes "to_f32"
kind_text AsUsize = codes "as_usize"
kind_text Sides = codes "resized sides"
kind_text Resize = codes "resize_bilinear"
kind_text Kernel = codes "gaussian_kernel"
kind_text Blur = codes "gaussian_blur_separable"
kind_text GradientX = codes "gradient_x"
kind_text GradientY = codes "gradient_y"
kind_text Prepare = codes "prepared images"
kind_text Warp = codes "warp_three_inverse_map"
kind_text Stats = codes "centered_stats_in_place"
kind_text TryInverse = codes "try_inverse"
kind_text Call = codes "whole calls"
kind_text Pins = codes "driver numbers"
kind_text Rows = codes "marked rows"

-- the kind that has a number, or that none has it
abbrev pub Names : ℕ → Result Kind UnknownKind → Type 0
Names number r = MatchResult r (λ kind. number_of kind ≡ number) (λ _. (kind : Kind) → number_of kind ≡ number → ⊥)
