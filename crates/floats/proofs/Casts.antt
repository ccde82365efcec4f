-- The cast of a value to a u64: what it asks, and what it gives. Assumes nothing.
use mathlib.Core.Path.{◌≡◌, sym, ap, ◌∙◌, subst}
use mathlib.Core.Bool.{Bool, true, false}
use Prim.Native.Nat.{ℕ, ◌+◌, ◌-◌, ◌*◌, ◌/◌, ◌^◌, ◌<◌, min, ◌≤◌}
use native.Mathlib.Nat.{le_of_eq, lt_of_lt_of_le, lt_of_le_of_lt, zero-mul, zero-div, mul_right_comm, mul-pos, mul-lt-mul_of_pos_right, lt_of_mul-lt-mul_right, div-lt_iff_lt-mul, le_trans, mul_comm, div-le_of_le-mul, min-le_left}
use native.Mathlib.Omega.{arith}
use lib.Dec.{T, lt→ltb}
use lib.IntN.{pos}
use lib.Ieee.{Float, nan, inf, fin, up, down, lt, to_unsigned}
use lib.Ieee.Fits.{down_pos}
use lib.Ieee.Exact.{HasValue}
use lib.Ieee.Nearest.{div_same}
use Rattle.floats.specs.Bound.{Within}

pub record Cut (v : Float) (n : ℕ) : Type 0 where
  pub low : T (lt (fin true 1 (pos 0)) v)
  pub high : T (lt v (fin false 1 (pos 64)))
  pub is : to_unsigned 64 v ≡ n

-- v is x / d, from 0 to below 2 ^ 64; -0 is a zero too
pub cut : (v : Float) (s : Bool) (x d : ℕ) → 0 < d → (T s → x ≡ 0) → x < 2 ^ 64 * d → HasValue v s x d → Cut v (x / d)
unfolding lt to_unsigned
cut nan s x d D z h k = absurd k
cut (inf t) s x d D z h k = absurd k
cut (fin true m e) s x d D z h k =
    let none : x ≡ 0 = z (subst T k.0 tt) in
    let over : 0 < down e = down_pos e in
    let nothing : m * up e * d < down e * d = lt_of_le_of_lt (le_of_eq (k.1 ∙ ap (λ (y : ℕ). y * down e) none ∙ zero-mul (down e))) (mul-pos over D) in
    let under : m * up e < down e = lt_of_mul-lt-mul_right d nothing in
    record {
      low = lt→ltb (m * up e * 1) (1 * down e) (omega arith);
      high = lt→ltb 0 (m * up e * 1 + 2 ^ 64 * down e) (omega arith);
      is = sym (ap (λ (y : ℕ). y / d) none ∙ zero-div d);
    }
cut (fin false m e) s x d D z h k =
    let over : 0 < down e = down_pos e in
    let whole : m * up e * d < 2 ^ 64 * down e * d = lt_of_le_of_lt (le_of_eq k.1) (lt_of_lt_of_le (mul-lt-mul_of_pos_right h over) (le_of_eq (mul_right_comm (2 ^ 64) d (down e)))) in
    let under : m * up e < 2 ^ 64 * down e = lt_of_mul-lt-mul_right d whole in
    record {
      low = lt→ltb 0 (1 * down e + m * up e * 1) (omega arith);
      high = lt→ltb (m * up e * 1) (2 ^ 64 * down e) (omega arith);
      is = ap (λ (y : ℕ). min y (2 ^ 64 - 1)) (div_same (m * up e) (down e) x d over D k.1) ∙ least (x / d) ((div-lt_iff_lt-mul D).1 h);
    }
  where
    least : (y : ℕ) → y < 2 ^ 64 → min y (2 ^ 64 - 1) ≡ y
    least y h = omega arith

-- a cast of a value within a whole bound
pub cast_within : (w : ℕ) (x : Float) (n : ℕ) → Within x n 1 → to_unsigned w x ≤ n
unfolding to_unsigned
cast_within w nan n h = absurd h
cast_within w (inf s) n h = absurd h
cast_within w (fin true m e) n h = omega arith
cast_within w (fin false m e) n h = le_trans (min-le_left (m * up e / down e) (2 ^ w - 1)) (div-le_of_le-mul (down e) (omega (arith, mul_comm (down e) n)))
