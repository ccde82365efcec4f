-- `blur::blur_pass` meets its contract. The loop's invariant: the first y rows of the second image are the pass's. Assumes nothing.
use mathlib.Core.Path.{◌≡◌, ap, ◌∙◌}
use mathlib.Core.List.{List}
use Prim.Native.Nat.{◌+◌, ◌*◌, ◌≤◌}
use native.Mathlib.Nat.{one-mul}
use native.Mathlib.Omega.{arith}
use lib.ListN.{length, take}
use lib.Ieee.{Float}
use Rattle.lists.specs.Lists.{tab, put, set_image}
use Rattle.lists.proofs.Fill.{rows_none, rows_more, take_rows, row_in}
use Rattle.lists.proofs.Images.{image_zero}
use Rattle.blur.specs.Pass.{taps_of, sweep_of}
use Rattle.blur.proofs.blur_pass.Goals as goal

pub loop-y-init : goal.loop-y-init
loop-y-init c = rows_none _ _ _ _

pub loop-y-preserved : goal.loop-y-preserved
loop-y-preserved c =
    let room :
    let a = c.args in
    c.loop-y.y * a.w + a.w ≤ a.w * a.h =
    let a = c.args in row_in a.w c.loop-y.y a.h c.loop-y-test.true in
    let a = c.args in
    let xs = a.part.now in
    let n = a.w * a.h in
    let y = c.loop-y.y in
    let g = taps_of a.along a.ks.now a.ksize a.w a.h (take n xs) a.ksize in
    let fits : n + y * a.w + a.w ≤ length xs = omega (arith, room) in
    let same : take n c.loop-y.part ≡ take n xs = ap (take n) c.loop-y.invariant ∙ take_rows xs n a.w g y (omega arith) n (omega arith) in
    rw same at c.blur_row.ensures
    ∙ ap (λ (z : List Float). put z (n + y * a.w) (tab a.w (λ x. g x y))) c.loop-y.invariant
    ∙ rows_more xs n a.w g y fits

pub returns : goal.returns
unfolding sweep_of set_image
returns c =
    let end : c.loop-y.y ≡ c.args.h = omega arith in
    rw (one-mul, image_zero) (rw end at c.loop-y.invariant)
