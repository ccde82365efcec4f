-- `sums::spread` meets its contract. Assumes nothing.
use native.Mathlib.Omega.{arith}
use Rattle.sums.proofs.Fours.{spread_none, spread_more}
use Rattle.sums.proofs.spread.Goals as goal

pub loop-k-init : goal.loop-k-init
loop-k-init c = spread_none _ _ _ _

pub loop-k-preserved : goal.loop-k-preserved
loop-k-preserved c =
    let l = c.loop-k in
    let a = c.args in
    spread_more a.part.now a.n a.at a.m.now l.k l.m (omega arith) l.invariant
