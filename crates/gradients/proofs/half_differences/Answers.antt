-- `gradients::half_differences` meets its contract. The loop's invariant: the first k numbers of the run stand, and nothing else has changed. Assumes nothing.
use native.Mathlib.Omega.{arith}
use Rattle.lists.proofs.Fill.{fill_none}
use Rattle.gradients.proofs.Rows.{run_more}
use Rattle.gradients.proofs.half_differences.Goals as goal

pub loop-k-init : goal.loop-k-init
loop-k-init c = fill_none _ _ _

pub loop-k-preserved : goal.loop-k-preserved
loop-k-preserved c =
    let a = c.args in
    run_more a.part.now a.to a.next a.prev a.m c.loop-k.k (omega arith) c.loop-k.part c.loop-k.invariant
