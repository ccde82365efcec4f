-- How large a root is: that of a value from +0 to 2 ^ (a + a) is from +0 to 2 ^ (a + 1). Assumes nothing.
use mathlib.Core.Path.{refl, sym, ap, ◌∙◌}
use mathlib.Core.Bool.{true, false, true≢false}
use Prim.Native.Nat.{ℕ, zero, suc, ◌+◌, ◌-◌, ◌*◌, ◌^◌, ◌≤◌, ◌<◌}
use native.Mathlib.Nat.{le_trans, le_of_eq, le_of_lt, lt_of_lt_of_le, mul_assoc, mul_comm, mul-one, mul-le-mul_right, mul-mul-mul_comm, zero-mul}
use native.Mathlib.Omega.{arith}
use lib.Dec.{T, lt→ltb, lit<, lit≤}
use lib.Pow.{pow-add}
use lib.Ieee.{Float, nan, inf, fin, binary32, fits, up}
use lib.Ieee.Positive.{value_pos}
use Rattle.floats.specs.Units.{units_of}
use Rattle.floats.proofs.Within.{Signed, within_more}
use Rattle.floats.proofs.Exactly.{value_within}
use Rattle.floats.proofs.FromZero.{FromZero}
use Rattle.floats.proofs.Units.{units_value}
use Rattle.floats.proofs.Values.{by_value, value_bound}
use Rattle.root.specs.Root.{sqrt_of}
use Rattle.root.proofs.Squares.{sq_lt}
use Rattle.root.proofs.Between.{Between, root_between}

-- u ≤ p ^ 2, in units of 1 / w: twice the root of u is at most 2 p
squared : (u p w : ℕ) → u ≤ p * p * w → 4 * (u * w) ≤ p * 2 * w * (p * 2 * w)
squared u p w h =
    le_trans (omega (arith, mul-le-mul_right w h))
    (le_of_eq (ap (λ (z : ℕ). 4 * z) (mul_assoc (p * p) w w) ∙ sym (mul_assoc 4 (p * p) (w * w)) ∙ sym (mul-mul-mul_comm (p * 2) w (p * 2) w ∙ ap (λ (z : ℕ). z * (w * w)) (mul-mul-mul_comm p 2 p 2 ∙ mul_comm (p * p) 4))))

-- q steps of 2 ^ j units, of which half a step less squares below 4 u
root_under : (u a : ℕ) (r : Float) → u ≤ 2 ^ (a + a) * 2 ^ 149 → Between u r → FromZero r (2 ^ (a + 1)) 1
root_under u a r U b =
    let p = 2 ^ b.j in
    let q = b.q in
    let top = 2 ^ (a + 1) * 2 ^ 149 in
    let s : 4 * (u * 2 ^ 149) ≤ top * top = rw (pow-add 2 a 1) (squared u (2 ^ a) (2 ^ 149) (rw (pow-add 2 a a) at U)) in
    let l : (2 * q - 1) * p < top = sq_lt ((2 * q - 1) * p) top (lt_of_lt_of_le b.below s) in
    let m : q * p ≤ (2 * q - 1) * p = mul-le-mul_right p (fewer q (le_trans (lit≤ tt) b.low)) in (
      by_value (Signed false) false (q * p) (2 ^ 149) (λ m e h. refl) r b.value,
      within_more r (q * p) (2 ^ 149) (2 ^ (a + 1)) 1 (lit< tt) (value_within r false (q * p) (2 ^ 149) b.value) (le_trans (le_of_eq (mul-one (q * p))) (le_trans m (le_of_lt l))),
    )
  where
    fewer : (q : ℕ) → 1 ≤ q → q ≤ 2 * q - 1
    fewer q P = omega arith

-- THE LAW
pub sqrt_from_zero : (x : Float) → T (fits binary32 x) → (a : ℕ) → FromZero x (2 ^ (a + a)) 1 → FromZero (sqrt_of x) (2 ^ (a + 1)) 1
sqrt_from_zero nan f a h = absurd h.0
sqrt_from_zero (inf s) f a h = absurd h.1
sqrt_from_zero (fin true m e) f a h = absurd (true≢false h.0)
sqrt_from_zero (fin false zero e) f a h = unfold sqrt_of in (refl, omega (arith, zero-mul (up e)))
sqrt_from_zero (fin false (suc m) e) f a h =
    let x = fin false (suc m) e in
    let v = units_value x f tt in
    root_under (units_of x) a (sqrt_of x) (le_trans (le_of_eq (sym (mul-one (units_of x)))) (value_bound x false (units_of x) (2 ^ 149) (2 ^ (a + a)) 1 v h.1))
    (root_between x f tt refl (value_pos x (units_of x) (2 ^ 149) (lt→ltb 0 (suc m) (omega arith)) (lit< tt) v))
