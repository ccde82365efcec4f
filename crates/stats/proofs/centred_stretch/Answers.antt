-- `stats::centred_stretch` meets its contract. Assumes nothing.
use Prim.Native.Nat.{◌<◌}
use mathlib.Core.Path.{◌≡◌}
use native.Mathlib.Omega.{arith}
use Rattle.lists.proofs.Fold.{range_none}
use Rattle.stats.proofs.Filling.{filled, filled_none, filled_more, three_more}
use Rattle.stats.proofs.centred_stretch.Goals as goal

pub loop-i-init : goal.loop-i-init
loop-i-init c = (filled_none _ _ _ _, range_none _ _ _)

pub loop-i-preserved : goal.loop-i-preserved
loop-i-preserved c =
    let l = c.loop-i in
    let few : l.i < c.args.to = omega arith in (
      filled_more _ _ _ _ _ c.requires.0 c.requires.1 c.requires.2 l.i l.auto.i few l.part l.invariant.0,
      three_more _ _ _ _ _ c.requires.0 c.requires.1 c.requires.2 l.i l.auto.i few l.part l.invariant.0 _ l.s l.invariant.1,
    )

pub returns : goal.returns
unfolding filled
returns c =
    let l = c.loop-i in
    let e : l.i ≡ c.args.to = omega arith in
    record { part_after = rw e at l.invariant.0; result_value = rw e at l.invariant.1 }
