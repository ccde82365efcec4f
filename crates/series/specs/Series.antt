-- The cosine, the sine and e^-a by document 01's recurrences on whole numbers in units of 2 ^ -30. Definitions only.
-- Floors are of exact values: `/` on whole numbers cuts. `round binary32 s n (2 ^ 30)` is n / 2 ^ 30 to f32: nearest, ties to even.
use Rattle.std.specs.Prelude.{ℕ, ◌+◌, ◌-◌, ◌*◌, ◌/◌, ◌^◌, true, false, ℤ, pos, negsuc, Float}
use Rattle.std.proofs.Math.IntN.{sub_ℕ}
use Rattle.std.specs.Float.{nan, inf, fin, binary32}
use Rattle.std.specs.Float.Ieee.{up, down, round, mul}
use Rattle.series.specs.Recurrence.{quotient_of, steps_of}
use Rattle.series.specs.declared.Series.{Series}
use Rattle.series.specs.declared.Series.TheVariants.{Cosine, Sine, Exponential}

-- the divisor of the step for k, besides 2 ^ 30
abbrev pub divisor_of : Series → ℕ → ℕ
divisor_of Cosine k = (2 * k - 1) * (2 * k)
divisor_of Sine k = 2 * k * (2 * k + 1)
divisor_of Exponential k = k

-- for a Z or Y up to this, and for steps down to this k, no step takes more than 2^30: `-` cuts nothing off (proofs/Recurrence.antt)
abbrev pub limit_of : Series → ℕ
limit_of Cosine = 2 ^ 32
limit_of Sine = 2 ^ 32
limit_of Exponential = 2 ^ 30

abbrev pub lowest_of : Series → ℕ
lowest_of Cosine = 2
lowest_of Sine = 1
lowest_of Exponential = 1

-- Z = floor(theta²·2^30)
unfoldable pub z_of : Float → ℕ
z_of nan = 0
z_of (inf s) = 0
z_of (fin s m e) = m * up e * (m * up e) * 2 ^ 30 / (down e * down e)

-- U/2^30 to f32, of a U with its sign
unfoldable pub over30_of : ℤ → Float
unfolding round
over30_of (pos n) = round binary32 false n (2 ^ 30)
over30_of (negsuc n) = round binary32 true (n + 1) (2 ^ 30)

-- the cosine: the steps for k = 8 down to 2, then the one for k = 1, after which U = 2^30 − floor(..) may be below zero
unfoldable pub cos_of : Float → Float
unfolding z_of steps_of over30_of
cos_of theta = let z = z_of theta in over30_of (sub_ℕ (2 ^ 30) (quotient_of z (divisor_of Cosine 1) (steps_of (divisor_of Cosine) z 8 7)))

-- the sine: W after the steps for k = 8 down to 1; W/2^30 to f32, times theta
unfoldable pub sin_of : Float → Float
unfolding z_of steps_of round mul
sin_of theta = mul binary32 (round binary32 false (steps_of (divisor_of Sine) (z_of theta) 8 8) (2 ^ 30)) theta

-- Y = floor(a·2^27)
unfoldable pub y_of : Float → ℕ
y_of nan = 0
y_of (inf s) = 0
y_of (fin s m e) = m * up e * 2 ^ 27 / down e

-- E becomes floor(E²/2^30)
abbrev pub squared_of : ℕ → ℕ
squared_of e = e * e / 2 ^ 30

-- e^−a: the steps for k = 12 down to 1, then E squared three times
unfoldable pub exp_neg_of : Float → Float
unfolding y_of steps_of round
exp_neg_of a = round binary32 false (squared_of (squared_of (squared_of (steps_of (divisor_of Exponential) (y_of a) 12 12)))) (2 ^ 30)
