-- The cosine is within 2 ^ -24 of its series through theta ^ 16. Assumes nothing.
use mathlib.Core.Path.{◌∙◌, subst}
use mathlib.Core.Bool.{true, false}
use mathlib.Core.Logic.{◌⊎◌, inl, inr}
use Prim.Native.Nat.{ℕ, ◌+◌, ◌*◌, ◌^◌, ◌≤◌, ◌<◌}
use native.Mathlib.Nat.{le_of_lt, mul-le-mul, div-le_of_le-mul, sub-le, sub-add_cancel}
use native.Mathlib.Omega.{arith}
use lib.Dec.{lit<, lit≤}
use lib.IntN.{sub_ℕ}
use lib.Ieee.{nan, inf, fin, up, down}
use Rattle.series.specs.Recurrence.{quotient_of, steps_of}
use Rattle.series.specs.Series.{divisor_of, z_of, over30_of, cos_of}
use Rattle.series.specs.declared.Series.TheVariants.{Cosine}
use Rattle.floats.proofs.Patterns.{lt_or_le}
use Rattle.series.proofs.Recurrence.{steps_le}
use Rattle.series.proofs.Signed.{not_below, below}
use Rattle.accuracy.specs.Accuracy.{CosineNear}
use Rattle.accuracy.proofs.Close.{Fraction, scale, rest, Close, left, past}
use Rattle.accuracy.proofs.Recurrence.{one, parts, Square, z_most, taken_close, partial, next, error_of, steps_close}
use Rattle.accuracy.proofs.Near.{NearTo, round_near}
use Rattle.accuracy.proofs.Taylor.{taylor, cosine_is, square_of}

-- what is left of 1 where w is taken off, or goes past it
rest_near : (t w : ℕ) (f : Fraction) (n : ℕ) → w ≤ 2 * one → (1 * parts + n * 2 ^ 25) * t ≤ 2 ^ 25 * parts → Close w one f n parts → NearTo t (over30_of (sub_ℕ one w)) (rest f)
rest_near t w f n W l h = go (lt_or_le one w)
  where
    go : (one < w) ⊎ (w ≤ one) → NearTo t (over30_of (sub_ℕ one w)) (rest f)
    go (inr y) = rw (not_below w y) (round_near t false 0 (lit< tt) (lit≤ tt) (sub-le one w) (lit< tt) l (left (sub-add_cancel y) h))
    go (inl z) = rw (below w z) (round_near t true 0 (lit< tt) (lit≤ tt) (omega arith) (lit< tt) l (past (sub-add_cancel (le_of_lt z)) h))

-- the last step's divisor is 2: what it takes off may be more than 1
last_near : (t z a c : ℕ) → Square z a c → (let d = divisor_of Cosine in (1 * parts + error_of d 8 8 * 2 ^ 25) * t ≤ 2 ^ 25 * parts → NearTo t (over30_of (sub_ℕ one (quotient_of z 2 (steps_of d z 8 7)))) (taylor 0 a c))
unfolding error_of
last_near t z a c s l =
    let d = divisor_of Cosine in
    let u = steps_of d z 8 7 in
    let f = partial d 8 a c 7 in
    let U = steps_le d z 8 7 in
    subst (NearTo t (over30_of (sub_ℕ one (quotient_of z 2 u)))) (next d 8 a c 7 ∙ cosine_is a c)
    (rest_near t (quotient_of z 2 u) (scale a (c * 2) f) (error_of d 8 8) (div-le_of_le-mul (one * 2) (mul-le-mul (z_most z a c s) U)) l (taken_close z a c s 2 (lit< tt) U (steps_close z a c s d 8 7 tt)))

-- THE THEOREM: theta from -2 to 2
pub cos_near : CosineNear
unfolding cos_of error_of
cos_near nan w = absurd w
cos_near (inf s) w = absurd w
cos_near (fin s k e) w = last_near _ (z_of (fin s k e)) (k * up e * (k * up e)) (down e * down e) (square_of s k e w) (lit≤ tt)
