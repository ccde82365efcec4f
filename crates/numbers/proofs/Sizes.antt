-- What the library's methods give is what the definitions of specs/Numbers.antt say: the size, what is finite, the floor, the nearest whole
-- number, and the pattern of a NaN. Assumes nothing.
use Rattle.std.proofs.Common.{◌≡◌, ℕ, ◌+◌, ◌-◌, ◌*◌, ◌/◌, true, false, sym, refl, ap, true≢false, arith}
use Rattle.std.specs.Float.{float_with_sign, float_is_finite, floor, float_round, round_with}
use lib.Ieee.{Float, nan, inf, fin, binary32, up, down, round, is_nan, to_bits}
use lib.Ieee.Fits.{down_pos}
use lib.Ieee.Scale.{finite}
use Rattle.numbers.specs.Numbers.{abs_of, floor_of, nearest_of, round_of}

pub abs_is : (x : Float) → float_with_sign false x ≡ abs_of x
unfolding float_with_sign abs_of
abs_is nan = refl
abs_is (inf s) = refl
abs_is (fin s m e) = refl

pub finite_is : (x : Float) → float_is_finite x ≡ finite x
unfolding float_is_finite
finite_is nan = refl
finite_is (inf s) = refl
finite_is (fin s m e) = refl

pub floor_is : (x : Float) → floor binary32 x ≡ floor_of x
unfolding round_with floor_of
floor_is nan = refl
floor_is (inf s) = refl
floor_is (fin false m e) = refl
floor_is (fin true m e) =
    let same : m * up e + down e - 1 ≡ m * up e + (down e - 1) = omega (arith, down_pos e) in
    ap (λ (n : ℕ). round binary32 true (n / down e) 1) same

pub round_is : (x : Float) → float_round binary32 x ≡ round_of x
unfolding round_with nearest_of round_of
round_is nan = refl
round_is (inf s) = refl
round_is (fin false m e) = refl
round_is (fin true m e) = refl

pub nan_bits : (x : Float) → is_nan x ≡ true → 0x7fc0_0000 ≡ to_bits binary32 x
unfolding is_nan to_bits
nan_bits nan h = refl
nan_bits (inf s) h = absurd (true≢false (sym h))
nan_bits (fin s m e) h = absurd (true≢false (sym h))
