-- `gradients::gradient_x` meets its contract. The loop's invariant: the first y rows stand in the second image, and nothing else has changed. Assumes nothing.
use Prim.Native.Nat.{◌+◌, ◌*◌, ◌≤◌}
use mathlib.Core.Path.{◌≡◌}
use native.Mathlib.Nat.{one-mul}
use native.Mathlib.Omega.{arith}
use Rattle.lists.specs.Lists.{set_image}
use Rattle.lists.proofs.Fill.{rows_none, row_in}
use Rattle.gradients.specs.Gradients.{before_of, after_of, gradient_x}
use Rattle.gradients.proofs.Rows.{row_more}
use Rattle.gradients.proofs.gradient_x.Goals as goal

pub loop-y-init : goal.loop-y-init
loop-y-init c = rows_none _ _ _ _

pub loop-y-preserved : goal.loop-y-preserved
loop-y-preserved c =
    let room : let a = c.args in let y = c.loop-y.y in y * a.w + a.w ≤ a.w * a.h =
    let a = c.args in row_in a.w c.loop-y.y a.h c.loop-y-test.true in
    let a = c.args in
    let y = c.loop-y.y in
    let k = room in
    row_more a.part.now (a.w * a.h) (a.w * a.h) a.w y (λ x y. y * a.w + after_of a.w x) (λ x y. y * a.w + before_of x) (omega arith) _ _ c.loop-y.invariant c.gradient_x_row.ensures

pub returns : goal.returns
unfolding gradient_x set_image
returns c =
    let q : c.loop-y.y ≡ c.args.h = omega arith in
    rw one-mul (rw q at c.loop-y.invariant)
