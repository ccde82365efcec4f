-- `blends::blend_row` meets its contract. The loop's invariant: the first x pixels stand, and nothing else has changed. Assumes nothing.
use mathlib.Core.Path.{refl}
use native.Mathlib.Omega.{arith}
use lib.ListN.{length-set}
use Rattle.lists.proofs.Fill.{fill_none}
use Rattle.blends.proofs.Runs.{row_more}
use Rattle.blends.proofs.blend_row.Goals as goal

pub loop-x-init : goal.loop-x-init
loop-x-init c = (omega arith, refl, fill_none _ _ _)

pub loop-x-preserved : goal.loop-x-preserved
loop-x-preserved c =
    let l = c.loop-x in
    let a = c.args in (
      omega arith,
      simp length-set l.invariant.1,
      row_more a.part.now a.across.now a.down.now a.w a.i a.from a.len a.to (omega arith) l.x (omega arith) l.part l.invariant.2 c.blend.result c.blend.ensures,
    )
