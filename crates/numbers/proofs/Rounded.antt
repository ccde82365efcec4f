-- Rounding to a whole number keeps a whole bound. Assumes nothing.
use Rattle.std.proofs.Common.{ℕ, suc, ◌+◌, ◌*◌, ◌^◌, ◌<◌, ◌≤◌, le_of_suc-le-suc, mul-le-mul_right, suc-mul, div-lt_iff_lt-mul, mul-pos, mul_left_comm, arith, lit<, lit≤}
use lib.Ieee.{Float, nan, inf, fin, binary32, up, down}
use lib.Ieee.Fits.{down_pos}
use Rattle.floats.specs.Bound.{Within}
use Rattle.floats.proofs.Within.{round_within, rep_down}
use Rattle.numbers.specs.Numbers.{nearest_of, round_of}

-- a whole bound is kept
pub round_of_within : (x : Float) (n : ℕ) → n ≤ 2 ^ 24 → Within x n 1 → Within (round_of x) n 1
unfolding round_of nearest_of
round_of_within nan n l h = absurd h
round_of_within (inf s) n l h = absurd h
round_of_within (fin s m e) n l h =
    round_within binary32 s (nearest_of (fin s m e)) 1 n 1 (lit< tt) (rep_down n 0 l (lit≤ tt))
    (mul-le-mul_right 1 (le_of_suc-le-suc ((div-lt_iff_lt-mul (mul-pos (lit< tt) (down_pos e))).1 (room (m * up e) (down e) n (down_pos e) h))))
  where
    room : (x d n : ℕ) → 0 < d → x * 1 ≤ n * d → 2 * x + d < suc n * (2 * d)
    room x d n D h = omega (arith, suc-mul n (2 * d), mul_left_comm n 2 d)
