-- `sums::project_stretch` meets its contract. Assumes nothing.
use mathlib.Core.Path.{◌≡◌}
use native.Mathlib.Omega.{arith}
use Rattle.sums.proofs.Fours.{more_none, more_turn}
use Rattle.sums.proofs.project_stretch.Goals as goal

pub loop-i-init : goal.loop-i-init
loop-i-init c = (omega arith, omega arith, more_none _ _ _ _ _)

pub loop-i-preserved : goal.loop-i-preserved
loop-i-preserved c =
    let l = c.loop-i in
    let a = c.args in (
      omega arith,
      omega (arith, c.least-len.ensures),
      more_turn a.part.now a.n a.q a.from l.i c.least-len.result a.m.now l.m _ _ l.invariant.0 (omega (arith, c.least-len.ensures)) l.invariant.2 c.spread.ensures c.add_spread.ensures,
    )

pub returns : goal.returns
returns c =
    let l = c.loop-i in
    let e : l.i ≡ c.args.to = omega arith in
    rw e at l.invariant.2
