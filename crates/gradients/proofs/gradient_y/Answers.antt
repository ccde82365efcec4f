-- `gradients::gradient_y` meets its contract. The loop's invariant: the first y rows stand in the third image, and nothing else has changed. Assumes nothing.
use Prim.Native.Nat.{◌+◌, ◌*◌, ◌≤◌}
use mathlib.Core.Path.{◌≡◌}
use native.Mathlib.Omega.{arith}
use Rattle.lists.specs.Lists.{set_image}
use Rattle.lists.proofs.Fill.{rows_none, row_in}
use Rattle.gradients.specs.Gradients.{before_of, after_of, gradient_y}
use Rattle.gradients.proofs.Rows.{row_more}
use Rattle.gradients.proofs.gradient_y.Goals as goal

pub loop-y-init : goal.loop-y-init
loop-y-init c = rows_none _ _ _ _

pub loop-y-preserved : goal.loop-y-preserved
loop-y-preserved c =
    let rows :
    let a = c.args in
    (c.loop-y.y * a.w + a.w ≤ a.w * a.h) × (c.row_below-d.result * a.w + a.w ≤ a.w * a.h) × (c.row_above-u.result * a.w + a.w ≤ a.w * a.h) =
    let a = c.args in
    (row_in a.w c.loop-y.y a.h (omega arith), row_in a.w c.row_below-d.result a.h (omega arith), row_in a.w c.row_above-u.result a.h (omega arith)) in
    let a = c.args in
    let n = a.w * a.h in
    let k = rows in
    let e : after_of a.h c.loop-y.y ≡ c.row_below-d.result = omega arith in
    let e' : before_of c.loop-y.y ≡ c.row_above-u.result = omega arith in
    row_more a.part.now (2 * n) n a.w c.loop-y.y (λ x y. after_of a.h y * a.w + x) (λ x y. before_of y * a.w + x) (omega arith, omega arith, λ x h. (rw e (omega arith), rw e' (omega arith))) _ _ c.loop-y.invariant (rw (e, e') c.half_differences.ensures)

pub returns : goal.returns
unfolding gradient_y set_image
returns c =
    let q : c.loop-y.y ≡ c.args.h = omega arith in
    rw q at c.loop-y.invariant
