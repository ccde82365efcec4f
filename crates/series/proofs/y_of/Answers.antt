-- `series::y_of` meets its contract: a * 2 ^ 27 is exact, and the cast cuts it. Assumes nothing.
use Rattle.std.proofs.Common.{◌≡◌, ℕ, ◌*◌, ◌/◌, ◌^◌, ◌≤◌, Bool, false, T, ℤ, pos, sym, refl, ap, ◌∙◌, subst, le_trans, le_of_eq, lt_of_le_of_lt, mul_comm, mul-lt-mul_of_pos_right, zero-mul, arith, lit<}
use native.Mathlib.Nat.{div-le_of_le-mul}
use denote.Floats.{passes}
use lib.Ieee.{Float, nan, inf, fin, binary32, up, down, mul, fits, of_bits}
use lib.Ieee.Fits.{down_pos}
use lib.Ieee.Exact.{HasValue}
use Rattle.floats.specs.Bound.{UpTo}
use Rattle.floats.proofs.Exactly.{mul_pow_exact}
use Rattle.series.specs.Series.{y_of}
use Rattle.floats.proofs.Values.{upto_within, upto_zero}
use Rattle.floats.proofs.Casts.{Cut, cut}
use Rattle.series.proofs.y_of.Goals as goal

abbrev two27 : Float
two27 = of_bits binary32 0x4d00_0000

two27_is : two27 ≡ fin false 1 (pos 27)
unfolding of_bits
two27_is = refl

y_is : (s : Bool) (m : ℕ) (e : ℤ) → y_of (fin s m e) ≡ m * up e * 2 ^ 27 / down e
unfolding y_of
y_is s m e = refl

-- 6 * 2 ^ 27 is below 2 ^ 30
six : (n d : ℕ) → n * 1 ≤ 6 * d → n * 2 ^ 27 ≤ 2 ^ 30 * d
six n d h = omega arith

y_le : (a : Float) → UpTo a 6 1 → y_of a ≤ 2 ^ 30
y_le nan h = absurd h
y_le (inf s) h = absurd h
y_le (fin s m e) h =
    le_trans (le_of_eq (y_is s m e))
    (div-le_of_le-mul (down e) (le_trans (six (m * up e) (down e) (upto_within (fin s m e) 6 1 h)) (le_of_eq (mul_comm (2 ^ 30) (down e)))))

y_cut : (a : Float) → T (fits binary32 a) → UpTo a 6 1 → Cut (mul binary32 a two27) (y_of a)
y_cut nan f h = absurd h
y_cut (inf s) f h = absurd h
y_cut (fin s m e) f h =
    let x = m * up e * 2 ^ 27 in
    let few : x ≤ 2 ^ 30 * down e = six (m * up e) (down e) (upto_within (fin s m e) 6 1 h) in
    let none : T s → x ≡ 0 = λ t. ap (λ (n : ℕ). n * up e * 2 ^ 27) (upto_zero s m e 6 1 h t) ∙ ap (λ (n : ℕ). n * 2 ^ 27) (zero-mul (up e)) in
    let exact : HasValue (mul binary32 (fin s m e) two27) s x (down e) =
    subst (λ (t : Float). HasValue (mul binary32 (fin s m e) t) s x (down e)) (sym two27_is)
    (mul_pow_exact binary32 s m e 27 f (lt_of_le_of_lt few (mul-lt-mul_of_pos_right (lit< tt) (down_pos e)))) in
    subst (Cut (mul binary32 (fin s m e) two27)) (sym (y_is s m e))
    (cut (mul binary32 (fin s m e) two27) s x (down e) (down_pos e) none (lt_of_le_of_lt few (mul-lt-mul_of_pos_right (lit< tt) (down_pos e))) exact)

pub truncating_f32_to_u64-requires : goal.truncating_f32_to_u64-requires
truncating_f32_to_u64-requires c =
    let held : T (fits binary32 c.args.a) =
    passes (fits binary32 c.args.a) c.well_formed.0.1 in
    let y = y_cut c.args.a held c.requires in record { lower_bound = y.low; upper_bound = y.high }

pub returns : goal.returns
returns c =
    let held : T (fits binary32 c.args.a) =
    passes (fits binary32 c.args.a) c.well_formed.0.1 in
    let is = c.truncating_f32_to_u64.ensures ∙ (y_cut c.args.a held c.requires).is in
    (is, le_trans (le_of_eq is) (y_le c.args.a c.requires))
