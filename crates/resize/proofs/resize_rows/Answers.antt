-- `resize::resize_rows` puts row after row at the front of `out`. Assumes nothing.
use mathlib.Core.Path.{◌≡◌, ◌∙◌}
use Prim.Native.Nat.{ℕ, ◌+◌, ◌*◌, ◌≤◌}
use native.Mathlib.Nat.{zero-add}
use native.Mathlib.Omega.{arith}
use lib.ListN.{length}
use lib.Ieee.{Float}
use Rattle.lists.specs.Lists.{tab, grid, put}
use Rattle.lists.proofs.Fill.{rows_none, rows_more, row_in}
use Rattle.resize.specs.Resize.{tap_of, bilinear_of, resize_of}
use Rattle.resize.proofs.resize_rows.Goals as goal

pub loop-y-init : goal.loop-y-init
loop-y-init c = rows_none _ _ _ _

pub loop-y-preserved : goal.loop-y-preserved
loop-y-preserved c =
    let a = c.args in
    let w = length a.taps.now in
    let xs = a.out.now in
    let y = c.loop-y.y in
    let room : y * w + w ≤ w * a.dst_h = row_in w y a.dst_h c.loop-y-test.true in
    let g : ℕ → ℕ → Float = λ x z. bilinear_of a.src.now a.src_w (tap_of a.src_w w x) (tap_of a.src_h a.dst_h z) in
    let fits : 0 + y * w + w ≤ length xs = omega (arith, room) in
    ◌∙◌ {b = put (put xs 0 (grid w y g)) (y * w) (tab w (λ x. g x y))}
    (rw (c.tap_at-ty.ensures.0, c.loop-y.invariant) at c.resize_row.ensures)
    (rw zero-add at (rows_more xs 0 w g y fits))

pub returns : goal.returns
unfolding resize_of
returns c =
    let q : c.loop-y.y ≡ c.args.dst_h = omega arith in
    rw q at c.loop-y.invariant
