-- `sums::steep` meets its contract. Assumes nothing.
use Prim.Native.Nat.{◌+◌, ◌-◌, ◌*◌, ◌≤◌}
use mathlib.Core.Path.{◌≡◌}
use native.Mathlib.Omega.{arith}
use Rattle.lists.specs.Lists.{grid, put}
use Rattle.lists.proofs.Fill.{row_in}
use Rattle.sums.proofs.Rows.{rows_rule, row_none, row_more, steep_end}
use Rattle.sums.proofs.steep.Goals as goal
use Rattle.sums.proofs.steep.Goals.{After-steep_row}

-- one row more stands
more : (c : After-steep_row) → let a = c.args in
    c.steep_row.new.part ≡ put a.part.now (5 * (a.w * a.h) + a.first * a.w) (grid a.w (c.loop-y.y + 1 - a.first) (rows_rule a.part.now (a.w * a.h) a.w c.cos-ct.result c.sin-st.result a.first))
more c =
    let a = c.args in
    let row : c.loop-y.y * a.w + a.w ≤ a.w * a.h = row_in a.w c.loop-y.y a.h (omega arith) in
    row_more a.part.now (a.w * a.h) a.w _ _ a.first c.loop-y.y c.loop-y.auto.y (row, omega arith) c.loop-y.part _ c.loop-y.invariant _ c.to_f32_short-yf.ensures c.steep_row.ensures

pub loop-y-init : goal.loop-y-init
loop-y-init c = row_none _ _ _ _ _ _

pub overflow_mul-y : goal.overflow_mul-y
overflow_mul-y c = omega (arith, row_in c.args.w c.loop-y.y c.args.h (omega arith))

pub steep_row-requires : goal.steep_row-requires
steep_row-requires c = omega (arith, row_in c.args.w c.loop-y.y c.args.h (omega arith))

pub loop-y-preserved : goal.loop-y-preserved
loop-y-preserved c = more (goal.at.loop-y-preserved c).After-steep_row

pub returns : goal.returns
returns c =
    let a = c.args in
    let e : c.loop-y.y ≡ a.last + 1 = omega arith in
    steep_end a.part.now _ _ _ _ a.first a.last a.h (omega arith) (omega arith) _ c.cos-ct.ensures c.sin-st.ensures c.loop-y.part (rw e at c.loop-y.invariant)

pub returns-2 : goal.returns-2
returns-2 c =
    let a = c.args in
    let e : c.loop-y.y + 1 ≡ a.last + 1 = omega arith in
    steep_end a.part.now _ _ _ _ a.first a.last a.h (omega arith) (omega arith) _ c.cos-ct.ensures c.sin-st.ensures _ (rw e at (more (goal.at.returns-2 c).After-steep_row))
