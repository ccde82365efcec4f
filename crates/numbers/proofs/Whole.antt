-- The whole numbers near a value: what is left below the point, and the quotients that floor and round are defined by. A value with nothing
-- left, as each from 2 ^ 23 on, is its own floor and is rounded to itself. Assumes nothing.
use Rattle.std.proofs.Common.{◌≡◌, ℕ, suc, ◌+◌, ◌-◌, ◌*◌, ◌/◌, ◌%◌, ◌^◌, ◌<◌, Bool, true, false, T, ℤ, pos, negsuc, sym, refl, ap, ◌∙◌, div-add-mod', mul_left_comm, arith, lit<, pow_pos, ltb-false}
use native.Mathlib.Nat.{mod-one, pow-succ'}
use lib.Arith.{digits_div}
use lib.Ieee.{Float, nan, inf, fin, binary32, up, down, round, lt, fits}
use lib.Ieee.Fits.{down_pos}
use Rattle.floats.proofs.Exactly.{round_value}
use Rattle.numbers.specs.Numbers.{abs_of, floor_of, nearest_of, round_of}
use Rattle.floats.proofs.Tests.{few_digits}

-- ---- the whole part of a value's size, and what is left of it, over the value's denominator

abbrev pub part : Float → ℕ
part nan = 0
part (inf s) = 0
part (fin s m e) = m * up e / down e

abbrev pub rest : Float → ℕ
rest nan = 0
rest (inf s) = 0
rest (fin s m e) = m * up e % down e

-- a is the size of x: from 2 ^ 23 on nothing is left, since a value has at most 24 digits, and none of them is below the point
pub large : (x a : Float) → T (fits binary32 x) → a ≡ abs_of x → lt a (fin false 1 (pos 23)) ≡ false → rest x ≡ 0
unfolding lt abs_of
large x a f q t = go x f (rw q at t)
  where
    go : (x : Float) → T (fits binary32 x) → lt (abs_of x) (fin false 1 (pos 23)) ≡ false → rest x ≡ 0
    go nan f h = refl
    go (inf s) f h = refl
    go (fin s m (pos k)) f h = mod-one (m * 2 ^ k)
    go (fin s m (negsuc k)) f h = absurd (omega (arith, few_digits binary32 s m (negsuc k) f, ltb-false (m * 1 * 1) (2 ^ 23 * 2 ^ suc k) h, pow-succ' 2 k, pow_pos k))

-- ---- the quotients of floor and round, by what is left of n / d

quotient : {y d : ℕ} (q r : ℕ) → y ≡ q * d + r → r < d → y / d ≡ q
quotient {d = d} q r e l = ap (λ (z : ℕ). z / d) e ∙ digits_div q l

ceil_whole : (n d : ℕ) → 0 < d → n % d ≡ 0 → (n + (d - 1)) / d ≡ n / d
ceil_whole n d D h = quotient (n / d) (d - 1) (omega (arith, div-add-mod' n d)) (omega arith)

near_low : (n d : ℕ) → 0 < d → 2 * (n % d) < d → (2 * n + d) / (2 * d) ≡ n / d
near_low n d D h = quotient (n / d) (2 * (n % d) + d) (omega (arith, div-add-mod' n d, mul_left_comm (n / d) 2 d)) (omega arith)

-- ---- a value with nothing left

-- its whole part, as a value with its sign, is the value
kept : (s : Bool) (m : ℕ) (e : ℤ) → T (fits binary32 (fin s m e)) → m * up e % down e ≡ 0 → round binary32 s (m * up e / down e) 1 ≡ fin s m e
kept s m e f h = round_value binary32 (fin s m e) s (m * up e / down e) 1 (lit< tt) f (refl, omega (arith, div-add-mod' (m * up e) (down e)))

pub floor_kept : (x : Float) → T (fits binary32 x) → rest x ≡ 0 → x ≡ floor_of x
unfolding floor_of
floor_kept nan f h = refl
floor_kept (inf s) f h = refl
floor_kept (fin false m e) f h = sym (kept false m e f h)
floor_kept (fin true m e) f h = sym (ap (λ (n : ℕ). round binary32 true n 1) (ceil_whole (m * up e) (down e) (down_pos e) h) ∙ kept true m e f h)

pub round_kept : (x : Float) → T (fits binary32 x) → rest x ≡ 0 → x ≡ round_of x
unfolding round_of nearest_of
round_kept nan f h = refl
round_kept (inf s) f h = refl
round_kept (fin s m e) f h = sym (ap (λ (n : ℕ). round binary32 s n 1) (near_low (m * up e) (down e) (down_pos e) (omega (arith, h, down_pos e))) ∙ kept s m e f h)
