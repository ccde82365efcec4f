-- Powers of ten up to the seventh, and the f32 nearest to a number over one of them. Assumes nothing.
use Prim.Native.Nat.{ℕ, ◌*◌, ◌^◌, ◌≤◌, ◌<◌}
use mathlib.Core.Path.{◌≡◌, ap, ◌∙◌}
use mathlib.Core.Bool.{false}
use native.Mathlib.Nat.{pow-le-pow_right, one-le-pow, mul-one, one-mul}
use native.Mathlib.Omega.{arith}
use lib.IntN.{pos}
use lib.Ieee.{Float, binary32, round, div, of_int}
use Rattle.floats.proofs.Exactly.{whole_is, div_value}

pub tens : (k n : ℕ) → k ≤ n → 10 ^ k ≤ 10 ^ n
tens k n h = pow-le-pow_right (omega arith) h

-- both are f32 exactly, so one division rounds once
over : (n p : ℕ) → n ≤ 16777216 → 0 < p → p ≤ 16777216 → div binary32 (of_int binary32 (pos n)) (of_int binary32 (pos p)) ≡ round binary32 false n p
over n p h q k =
    div_value binary32 (of_int binary32 (pos n)) (of_int binary32 (pos p)) false false n 1 p 1 (omega arith) q (whole_is n (omega arith)) (whole_is p (omega arith))
    ∙ ap (λ (z : ℕ). round binary32 false z (1 * p)) (mul-one n) ∙ ap (round binary32 false n) (one-mul p)

pub quotient : (n k p : ℕ) {x y : Float} → n ≤ 16777216 → k ≤ 7 → p ≡ 10 ^ k → x ≡ of_int binary32 (pos n) → y ≡ of_int binary32 (pos p) → div binary32 x y ≡ round binary32 false n (10 ^ k)
quotient n k p {x} {y} h q e a b =
    ap (λ (z : Float). div binary32 z y) a
    ∙ ap (div binary32 (of_int binary32 (pos n))) (b ∙ ap (λ (z : ℕ). of_int binary32 (pos z)) e)
    ∙ over n (10 ^ k) h (omega (arith, one-le-pow k 10 (omega arith))) (omega (arith, tens k 7 q))
