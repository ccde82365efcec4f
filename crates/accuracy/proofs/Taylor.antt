-- The cosine's and the sine's recurrences against Taylor's sums: the square that both start from, and the sums that they come to. Assumes nothing.
use mathlib.Core.Path.{◌≡◌, refl}
use mathlib.Core.Bool.{Bool}
use Prim.Native.Nat.{ℕ, ◌*◌, ◌≤◌, ◌<◌}
use native.Mathlib.Nat.{le_trans, le_of_eq, le_of_lt, mul_comm, mul-pos, mul-le-mul, mul-mul-mul_comm, mul-div-le, lt-div-mul-add}
use native.Mathlib.Omega.{arith}
use lib.IntN.{ℤ}
use lib.Ieee.{fin, up, down}
use lib.Ieee.Fits.{down_pos}
use Rattle.floats.specs.Bound.{Within}
use Rattle.series.specs.Series.{divisor_of, z_of}
use Rattle.series.specs.declared.Series.TheVariants.{Cosine, Sine}
use Rattle.accuracy.specs.Taylor.{evens, odds, whole}
use Rattle.accuracy.proofs.Close.{Fraction}
use Rattle.accuracy.proofs.Recurrence.{one, Square, partial, odd_terms}

abbrev pub taylor : ℕ → ℕ → ℕ → Fraction
taylor s a c = record { plus = evens s a c; minus = odds s a c; over = whole s c }

pub cosine_is : (a c : ℕ) → partial (divisor_of Cosine) 8 a c 8 ≡ taylor 0 a c
unfolding odd_terms
cosine_is a c = refl

pub sine_is : (a c : ℕ) → partial (divisor_of Sine) 8 a c 8 ≡ taylor 1 a c
unfolding odd_terms
sine_is a c = refl

pub square_of : (s : Bool) (k : ℕ) (e : ℤ) → Within (fin s k e) 2 1 → Square (z_of (fin s k e)) (k * up e * (k * up e)) (down e * down e)
unfolding z_of
square_of s k e w =
    let n = k * up e in
    let d = down e in
    let C : 0 < d * d = mul-pos (down_pos e) (down_pos e) in
    let l : n ≤ 2 * d = omega arith in
    record {
      below = C;
      low = le_trans (le_of_eq (mul_comm (z_of (fin s k e)) (d * d))) (le_trans (mul-div-le (n * n * one) (d * d)) (le_of_eq (mul_comm (n * n) one)));
      high = le_trans (le_of_eq (mul_comm one (n * n))) (le_of_lt (lt-div-mul-add C));
      four = le_trans (mul-le-mul l l) (le_of_eq (mul-mul-mul_comm 2 d 2 d));
    }
