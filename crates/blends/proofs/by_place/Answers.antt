-- `blends::by_place` meets its contract. Assumes nothing.
use Prim.Native.Nat.{◌+◌}
use mathlib.Core.Path.{refl}
use native.Mathlib.Omega.{arith}
use Rattle.blends.proofs.Stretch.{stretch_start, stretch_end, taken_turn}
use Rattle.blends.proofs.by_place.Goals as goal

pub loop-x-init : goal.loop-x-init
loop-x-init c =
    let a = c.args in
    stretch_start a.n (a.at + a.from) a.from a.to _ a.part.now (omega arith)

pub mix-p-requires : goal.mix-p-requires
mix-p-requires c =
    let l = c.loop-x in
    (omega (arith, l.invariant.part_length), omega (arith, c.requires.6 l.x l.invariant.low (omega arith)))

pub loop-x-preserved : goal.loop-x-preserved
loop-x-preserved c =
    let l = c.loop-x in
    let a = c.args in
    taken_turn a.n a.w a.at a.from a.to a.spots.now a.across.now a.down.now a.part.now (omega arith) l.part l.x _ c.mix-p.result (omega arith) l.invariant refl c.mix-p.ensures

pub returns : goal.returns
returns c =
    let l = c.loop-x in
    let a = c.args in
    stretch_end a.n (a.at + a.from) a.from a.to _ a.part.now (omega arith) l.part l.x (omega (arith, l.invariant.bound)) l.invariant
