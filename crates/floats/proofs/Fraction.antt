-- What is left of a value above its whole part is exact: x - floor x, as bilinear sampling takes it. Assumes nothing.
use mathlib.Core.Path.{◌≡◌, refl, sym, ap, ◌∙◌, subst}
use Prim.Native.Nat.{ℕ, zero, suc, ◌*◌, ◌/◌, ◌%◌, ◌^◌, ◌≤◌}
use native.Mathlib.Nat.{le_trans, le_of_eq, le_of_lt, mul-one, mod-le, mod-lt, mod-one, div-mul-le_self, mod-eq-sub-div-mul, zero-mul}
use native.Mathlib.Omega.{arith}
use mathlib.Core.Bool.{false}
use lib.Dec.{T, lit<, lit≤}
use lib.Pow.{pow_pos}
use lib.IntN.{ℤ, pos, negsuc}
use lib.Ieee.{fin, binary32, up, down, sub, of_int, fits}
use lib.Ieee.Exact.{HasValue}
use lib.Ieee.Fits.{down_pos}
use Rattle.floats.specs.Bound.{Within, Rep}
use Rattle.floats.proofs.Within.{rep_down, within_more}
use Rattle.floats.proofs.Exactly.{whole_is, value_over, value_within, fits_few, fits_low, pow_le}
use Rattle.floats.proofs.Signs.{sub_exact}

rep_rest : (m : ℕ) (e : ℤ) → T (fits binary32 (fin false m e)) → Rep binary32 (m * up e % down e) (down e)
rep_rest m (pos k) f = subst (λ (z : ℕ). Rep binary32 z 1) (sym (mod-one (m * 2 ^ k))) (rep_down 0 0 (lit≤ tt) (lit≤ tt))
rep_rest zero (negsuc k) f = record {
  q = 0;
  j = 0;
  below = pow_pos (suc k);
  few = lit< tt;
  small = lit< tt;
  is = ap (λ (z : ℕ). z * 2 ^ 149) (nil (0 % 2 ^ suc k) (mod-le 0 (2 ^ suc k))) ∙ sym (zero-mul (2 ^ suc k));
}
  where
    nil : (x : ℕ) → x ≤ 0 → x ≡ 0
    nil x h = omega arith
rep_rest (suc m) (negsuc k) f =
    rep_down (suc m * 1 % 2 ^ suc k) (suc k) (le_trans (mod-le (suc m * 1) (2 ^ suc k)) (le_trans (le_of_eq (mul-one (suc m))) (le_of_lt (fits_few binary32 false m (negsuc k) f)))) (pow_le (suc k) 149 (fits_low binary32 false m (negsuc k) f))

pub fraction : (m : ℕ) (e : ℤ) → T (fits binary32 (fin false m e)) → m * up e / down e ≤ 2 ^ 24
    → HasValue (sub binary32 (fin false m e) (of_int binary32 (pos (m * up e / down e)))) false (m * up e % down e) (down e)
fraction m e f h =
    let n = m * up e / down e in
    let x = m * up e in
    let c = down e in
    subst (λ (z : ℕ). HasValue (sub binary32 (fin false m e) (of_int binary32 (pos n))) false z c) (sym (mod-eq-sub-div-mul x c))
    (sub_exact binary32 (fin false m e) (of_int binary32 (pos n)) x (n * c) c (div-mul-le_self x c)
    (subst (λ (z : ℕ). Rep binary32 z c) (mod-eq-sub-div-mul x c) (rep_rest m e f))
    (refl, refl)
    (value_over (of_int binary32 (pos n)) false n c (whole_is n h)))

-- .. and at most 1
pub fraction_within : (m : ℕ) (e : ℤ) → T (fits binary32 (fin false m e)) → m * up e / down e ≤ 2 ^ 24 → Within (sub binary32 (fin false m e) (of_int binary32 (pos (m * up e / down e)))) 1 1
fraction_within m e f h =
    let x = m * up e in
    let rest = sub binary32 (fin false m e) (of_int binary32 (pos (x / down e))) in
    within_more rest (x % down e) (down e) 1 1 (down_pos e) (value_within rest false (x % down e) (down e) (fraction m e f h)) (omega (arith, mod-lt x (down_pos e)))
