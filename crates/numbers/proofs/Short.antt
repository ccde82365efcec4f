-- A whole number by its bits: from 2 ^ 23 on the bits of an f32 count by ones, so those of 2 ^ 23 and n more are those of 2 ^ 23 + n. Assumes nothing.
use mathlib.Core.Path.{◌≡◌, refl, ap, ◌∙◌, subst}
use mathlib.Core.Bool.{false}
use Prim.Native.Nat.{ℕ, ◌+◌, ◌-◌, ◌*◌, ◌/◌, ◌%◌, ◌^◌, ◌≤◌}
use native.Mathlib.Omega.{arith}
use lib.Dec.{lit<}
use lib.IntN.{pos}
use lib.Ieee.{binary32, round, of_int, of_bits}
use lib.Ieee.Fits.{of_int-fits}
use lib.Ieee.Bits.{of_bits-fits}
use lib.Ieee.Exact.{HasValue}
use Rattle.floats.specs.F32.{◌⊖◌, f32}
use Rattle.floats.specs.Units.{units_at}
use Rattle.floats.proofs.Exactly.{whole_is, value_unique, value_over}
use Rattle.floats.proofs.Signs.{sub_whole}
use Rattle.floats.proofs.Patterns.{bits_value, units_normal}

pub short_is : (n : ℕ) → n ≤ 65535 → of_bits binary32 (0x4b00_0000 + n) ⊖ of_bits binary32 0x4b00_0000 ≡ f32 n
short_is n N =
    let b = 0x4b00_0000 + n in
    let k = 8388608 + n in
    let low : 8388608 ≤ b = omega arith in
    let digits : b % 8388608 ≡ n = omega arith in
    let field : b / 8388608 - 1 ≡ 149 = omega arith in
    let units : units_at b ≡ k * 2 ^ 149 = units_normal b low ∙ rw (digits, field) refl in
    let is : of_bits binary32 b ≡ f32 k =
    value_unique binary32 (of_bits binary32 b) (f32 k) false (k * 2 ^ 149) (2 ^ 149) (lit< tt) (of_bits-fits binary32 b) (of_int-fits binary32 (pos k))
    (subst (λ (u : ℕ). HasValue (of_bits binary32 b) false u (2 ^ 149)) units (bits_value b (omega arith))) (value_over (f32 k) false k (2 ^ 149) (whole_is k (omega arith))) in
    let big : of_bits binary32 0x4b00_0000 ≡ f32 8388608 = unfold of_bits of_int round in refl in
    let less : k - 8388608 ≡ n = omega arith in
    rw (is, big) (sub_whole k 8388608 (omega arith) (omega arith) ∙ ap f32 less)
