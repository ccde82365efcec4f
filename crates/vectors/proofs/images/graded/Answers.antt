-- `vectors::images::graded` meets its contract. Assumes nothing.
use mathlib.Core.Path.{refl, ◌∙◌}
use Prim.Native.Nat.{◌*◌, ◌≤◌}
use native.Mathlib.Nat.{mul-le-mul_right}
use native.Mathlib.Omega.{arith}
use Rattle.vectors.specs.Images.{gradient_agrees}
use Rattle.vectors.proofs.Stages.{gradient_told}
use Rattle.vectors.proofs.images.graded.Goals as goal

pub returns-in_default : goal.returns-in_default
unfolding gradient_agrees
returns-in_default g c = λ rule sized gives. rw c.in_default.ensures

pub returns : goal.returns
returns g c = λ rule sized gives.
    let s = c.in-Some.s in
    let few : c.args.k * s.n ≤ 2 * s.n = mul-le-mul_right {m = c.args.k} {n = 2} s.n (omega arith) in
    c.same_floats.ensures
    ∙ gradient_told c.args.words.now c.in-Some.ensures rule sized c.args.k (c.args.k * s.n) _ _ _ refl (omega (arith, few, c.in-Some.ensures.few)) c.floats.ensures (gives _ _ _ _ _ c.gradient.ensures)
