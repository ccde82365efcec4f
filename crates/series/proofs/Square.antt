-- floor(theta²·2^30) by theta's bit pattern. Assumes nothing.
use Rattle.std.proofs.Common.{◌≡◌, ℕ, ◌+◌, ◌-◌, ◌*◌, ◌/◌, ◌%◌, ◌^◌, ◌<◌, ◌≤◌, Bool, T, leb, sym, ap, ◌∙◌, le_trans, lt_of_le_of_lt, mul-le-mul_right, mul_assoc, mul-le-mul, mul-pos, mul_right_comm, arith, lit<, lit≤, pow_pos, pow-add}
use native.Mathlib.Nat.{mul-mul-mul_comm, div-eq_of_lt, div-le_of_le-mul, mul-div-mul_right}
use lib.Ieee.{Float, nan, inf, fin, binary32, up, down, fits, to_bits}
use lib.Ieee.Fits.{down_pos}
use lib.Ieee.Exact.{HasValue}
use lib.Ieee.Nearest.{div_same}
use Rattle.lists.specs.Marked.{pick}
use Rattle.floats.specs.Bound.{Within}
use Rattle.floats.specs.Units.{units_at}
use Rattle.floats.proofs.Within.{within_finite}
use Rattle.floats.proofs.Patterns.{units_normal, units_mono, own_pattern}
use Rattle.series.specs.Series.{z_of}

abbrev pub square_units : ℕ → ℕ
square_units b = units_at b * units_at b * 2 ^ 30 / (2 ^ 149 * 2 ^ 149)

-- a bound on the pattern bounds the square
units_square_le : (b c : ℕ) → b ≤ c → units_at b * units_at b * 2 ^ 30 ≤ units_at c * units_at c * 2 ^ 30
units_square_le b c h = mul-le-mul_right (2 ^ 30) (mul-le-mul (units_mono b c h) (units_mono b c h))

-- up to 2 it is at most 2 ^ 32
pub square_le : (b : ℕ) → b ≤ 1073741824 → square_units b ≤ 2 ^ 32
unfolding pick
square_le b h = div-le_of_le-mul (2 ^ 149 * 2 ^ 149) (le_trans (units_square_le b 1073741824 h) (lit≤ tt))

-- below 2 ^ -23 it is 0
pub square_none : (b : ℕ) → b / 8388608 < 104 → square_units b ≡ 0
unfolding pick
square_none b h = div-eq_of_lt (lt_of_le_of_lt (units_square_le b 872415231 (last b h)) (lit< tt))
  where
    last : (b : ℕ) → b / 8388608 < 104 → b ≤ 872415231
    last b h = omega arith

-- 2 ^ 298 is 2 ^ (270 - 2 e) times 2 ^ (2 e - 2) times 2 ^ 30
split : (e : ℕ) → 1 ≤ e → e ≤ 128 → 2 ^ 149 * 2 ^ 149 ≡ 2 ^ (270 - 2 * e) * (2 ^ (e - 1) * 2 ^ (e - 1) * 2 ^ 30)
split e h k =
    sym (ap (λ (x : ℕ). 2 ^ (270 - 2 * e) * (x * 2 ^ 30)) (sym (pow-add 2 (e - 1) (e - 1)))
    ∙ ap (λ (x : ℕ). 2 ^ (270 - 2 * e) * x) (sym (pow-add 2 (e - 1 + (e - 1)) 30))
    ∙ sym (pow-add 2 (270 - 2 * e) (e - 1 + (e - 1) + 30))
    ∙ ap (λ (x : ℕ). 2 ^ x) (total e h k))
  where
    total : (e : ℕ) → 1 ≤ e → e ≤ 128 → 270 - 2 * e + (e - 1 + (e - 1) + 30) ≡ 298
    total e h k = omega arith

-- from there on it is the digits' square, shifted
pub square_normal : (b : ℕ) → b ≤ 1073741824 → 104 ≤ b / 8388608 → square_units b ≡ (8388608 + b % 8388608) * (8388608 + b % 8388608) / 2 ^ (270 - 2 * (b / 8388608))
square_normal b h l =
    let e = b / 8388608 in
    let m = 8388608 + b % 8388608 in
    let p = 2 ^ (e - 1) in
    ap (λ (x : ℕ). x * x * 2 ^ 30 / (2 ^ 149 * 2 ^ 149)) (units_normal b (some b l))
    ∙ ap (λ (x : ℕ). x * 2 ^ 30 / (2 ^ 149 * 2 ^ 149)) (mul-mul-mul_comm m p m p)
    ∙ ap (λ (x : ℕ). x / (2 ^ 149 * 2 ^ 149)) (mul_assoc (m * m) (p * p) (2 ^ 30))
    ∙ ap (λ (x : ℕ). m * m * (p * p * 2 ^ 30) / x) (split e (one e l) (last b h))
    ∙ mul-div-mul_right (m * m) (2 ^ (270 - 2 * e)) (mul-pos (mul-pos (pow_pos (e - 1)) (pow_pos (e - 1))) (lit< tt))
  where
    some : (b : ℕ) → 104 ≤ b / 8388608 → 8388608 ≤ b
    some b h = omega arith

    one : (e : ℕ) → 104 ≤ e → 1 ≤ e
    one e h = omega arith

    last : (b : ℕ) → b ≤ 1073741824 → b / 8388608 ≤ 128
    last b h = omega arith

-- ---- Z of a value is that of its pattern

square_of_value : (x : Float) (s : Bool) (u : ℕ) → HasValue x s u (2 ^ 149) → z_of x ≡ u * u * 2 ^ 30 / (2 ^ 149 * 2 ^ 149)
unfolding z_of
square_of_value nan s u h = absurd h
square_of_value (inf t) s u h = absurd h
square_of_value (fin t m e) s u h =
    let n = m * up e in
    div_same (n * n * 2 ^ 30) (down e * down e) (u * u * 2 ^ 30) (2 ^ 149 * 2 ^ 149) (mul-pos (down_pos e) (down_pos e)) (lit< tt)
    (mul_right_comm (n * n) (2 ^ 30) (2 ^ 149 * 2 ^ 149)
    ∙ ap (λ (z : ℕ). z * 2 ^ 30) (mul-mul-mul_comm n n (2 ^ 149) (2 ^ 149) ∙ ap (λ (z : ℕ). z * z) h.1 ∙ mul-mul-mul_comm u (down e) u (down e))
    ∙ mul_right_comm (u * u) (down e * down e) (2 ^ 30))

pub square_is : (x : Float) → T (fits binary32 x) → Within x 2 1 → square_units (to_bits binary32 x % 2147483648) ≡ z_of x
square_is x f w =
    let b = to_bits binary32 x in
    sym (square_of_value x (leb 2147483648 b) (units_at (b % 2147483648)) (own_pattern x f (within_finite x 2 1 w)))
