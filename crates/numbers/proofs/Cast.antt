-- `floor().max(0.0)` before a cast to a whole number changes nothing: the cast drops a fraction, and gives 0 below zero, by itself. Assumes nothing.
use Rattle.std.proofs.Common.{◌≡◌, suc, ◌+◌, ◌-◌, ◌*◌, ◌/◌, ◌^◌, ◌≤◌, true, false, T, pos, negsuc, sym, refl, ap, ◌∙◌, div-le_self, div-one, arith, lit<}
use native.Mathlib.Nat.{mod-one, min-eq_left}
use lib.Ieee.{Float, nan, inf, fin, binary32, up, down, lt, fits, of_int, of_bits, is_nan, to_unsigned}
use Rattle.lists.specs.Marked.{pick}
use Rattle.lists.proofs.Cases.{pick_false, pick_both}
use Rattle.floats.specs.F32.{f32, 0f}
use Rattle.floats.proofs.Within.{Signed, round_signed}
use Rattle.floats.proofs.Exactly.{whole_is}
use Rattle.floats.proofs.Tests.{below_zero, few_digits}
use Rattle.floats.proofs.Casts.{cut}
use Rattle.numbers.specs.Numbers.{floor_of, max_of}
use Rattle.numbers.proofs.Whole.{floor_kept}

pub cast_negative : (x : Float) → Signed true x → to_unsigned 64 x ≡ 0
unfolding to_unsigned
cast_negative nan s = absurd s
cast_negative (inf t) s = rw s
cast_negative (fin t m e) s = rw s

-- .max(0.0)
pub cast_max : (x : Float) → to_unsigned 64 (max_of x 0f) ≡ to_unsigned 64 x
unfolding max_of pick is_nan lt of_bits to_unsigned
cast_max nan = refl
cast_max (inf true) = refl
cast_max (inf false) = refl
cast_max (fin true m e) = pick_both (λ z. to_unsigned 64 z ≡ 0) (lt (fin true m e) 0f) 0f (fin true m e) refl refl
cast_max (fin false m e) = ap (to_unsigned 64) (pick_false (lt (fin false m e) 0f) 0f (fin false m e) (below_zero false m e))

-- .floor(): a value with a fraction is below 2 ^ 24
pub cast_floor : (x : Float) → T (fits binary32 x) → to_unsigned 64 (floor_of x) ≡ to_unsigned 64 x
unfolding floor_of to_unsigned of_int
cast_floor nan f = refl
cast_floor (inf t) f = refl
cast_floor (fin true m e) f = cast_negative (floor_of (fin true m e)) (round_signed binary32 true ((m * up e + (down e - 1)) / down e) 1)
cast_floor (fin false m (pos k)) f = ap (to_unsigned 64) (sym (floor_kept (fin false m (pos k)) f (mod-one (m * 2 ^ k))))
cast_floor (fin false m (negsuc k)) f =
    let q = m * 1 / 2 ^ suc k in
    let few : q ≤ 2 ^ 24 = omega (arith, div-le_self (m * 1) (2 ^ suc k), few_digits binary32 false m (negsuc k) f) in
    (cut (f32 q) false q 1 (lit< tt) (λ t. absurd t) (omega arith) (whole_is q few)).is ∙ div-one q ∙ sym (min-eq_left (omega arith))

-- THE LAW: document 000's `floor().max(0.0) as isize` is the cast alone
pub cast_floor_max : (x : Float) → T (fits binary32 x) → to_unsigned 64 (max_of (floor_of x) 0f) ≡ to_unsigned 64 x
cast_floor_max x f = cast_max (floor_of x) ∙ cast_floor x f
