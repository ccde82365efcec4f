-- `sums::steep_row` meets its contract. Assumes nothing.
use native.Mathlib.Omega.{arith}
use Rattle.lists.proofs.Fill.{fill_none}
use Rattle.sums.proofs.Rows.{pixel_more}
use Rattle.sums.proofs.steep_row.Goals as goal

pub loop-x-init : goal.loop-x-init
loop-x-init c = fill_none _ _ _

pub loop-x-preserved : goal.loop-x-preserved
loop-x-preserved c =
    let l = c.loop-x in
    let a = c.args in
    pixel_more a.part.now a.n a.row a.ct a.st a.yc a.ys a.w (omega arith) l.x (omega arith) l.part l.invariant _ c.to_f32_short-xf.ensures
