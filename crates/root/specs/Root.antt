-- The square root of an f32, rounded to the nearest f32. Definitions only.
use Rattle.std.specs.Prelude.{true, false, ℕ, zero, suc, ◌+◌, ◌*◌, ◌/◌, ◌^◌, leb, eqb, Float}
use Rattle.std.specs.Float.{nan, inf, fin, binary32}
use Rattle.std.specs.Float.Ieee.{up, down, round}
use Rattle.lists.specs.Marked.{pick}

-- one more binary digit of a root: r from the digits so far, doubled
abbrev pub digit : ℕ → ℕ → ℕ
digit r n = pick (leb ((r + 1) * (r + 1)) n) (r + 1) r

-- the largest number whose square is at most n, for an n below 4 ^ k
unfoldable pub sq : ℕ → ℕ → ℕ
sq zero n = 0
sq (suc k) n = digit (2 * sq k (n / 4)) n

-- The f32 nearest to the root of n / 4 ^ 101, for an n of at least 2 ^ 52. The whole part r of n's root has 26 digits or more, so what is below
-- its last digit only matters by not being zero, and stands for a half.
unfoldable pub root_near : ℕ → Float
unfolding sq round
root_near n = let r = sq 166 n in round binary32 false (2 * r + pick (eqb (r * r) n) 0 1) (2 ^ 102)

-- IEEE 754's squareRoot. A finite x above zero is n / 4 ^ 101 for a whole number n, since it is a multiple of 2 ^ -149.
unfoldable pub sqrt_of : Float → Float
unfolding root_near
sqrt_of nan = nan
sqrt_of (inf true) = nan
sqrt_of (inf false) = inf false
sqrt_of (fin s zero e) = fin s zero e
sqrt_of (fin true (suc m) e) = nan
sqrt_of (fin false (suc m) e) = root_near (suc m * up e * 2 ^ 202 / down e)
