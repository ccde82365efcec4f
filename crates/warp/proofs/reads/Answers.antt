-- `warp::reads` meets its contract: a stretch at a turn. Assumes nothing.
use Prim.Native.Nat.{◌+◌}
use native.Mathlib.Omega.{arith}
use Rattle.bits.proofs.Stretches.{stretch_full, stretch_further}
use Rattle.warp.proofs.Rows.{reads_start, reads_turn, reads_end}
use Rattle.warp.proofs.reads.Goals as goal

pub loop-x-init : goal.loop-x-init
loop-x-init c =
    let a = c.args in
    reads_start a.n a.w a.at a.len a.marks.now a.scratch.now.spots a.scratch.now.across a.scratch.now.down a.part.now (omega arith)

pub clear_stretch-requires : goal.clear_stretch-requires
clear_stretch-requires c =
    let o = c.next_stretch-r.ensures in
    let l = c.loop-x in
    (o.low, omega (arith, o.order, o.high), omega (arith, l.invariant.part_length))

pub reads_stretch-requires : goal.reads_stretch-requires
reads_stretch-requires c =
    let r = c.next_stretch-r.result in
    let o = c.next_stretch-r.ensures in
    let l = c.loop-x in
    let a = c.args in
    let kept = c.clear_stretch.auto.part in
    let f = c.requires in (
      omega arith,
      (
        omega (arith, o.order),
        omega (arith, o.low, o.order, o.high),
        omega (arith, l.invariant.part_length, kept),
        omega (arith, o.high),
        omega (arith, o.high),
        omega (arith, o.high),
        λ x p q. f.5.reach x (omega (arith, o.low, o.high)) (stretch_full a.marks.now a.n (a.at + a.len) (a.at + l.x) r f.0 o (a.at + x) (omega (arith, o.low)) (omega (arith, o.low, o.order))),
      ),
    )

pub loop-x-smaller : goal.loop-x-smaller
loop-x-smaller c =
    let l = c.loop-x in
    let a = c.args in
    let o = c.next_stretch-r.ensures in
    omega (arith, o.high, o.low, o.order, stretch_further a.marks.now a.n (a.at + a.len) (a.at + l.x) c.next_stretch-r.result c.requires.0 o (omega arith))

pub loop-x-preserved : goal.loop-x-preserved
loop-x-preserved c =
    let l = c.loop-x in
    let a = c.args in
    let o = c.next_stretch-r.ensures in
    reads_turn a.n a.w a.at a.len a.marks.now a.scratch.now.spots a.scratch.now.across a.scratch.now.down a.part.now (omega arith) l.part l.x c.next_stretch-r.result o l.invariant _ c.clear_stretch.ensures _ c.reads_stretch.ensures

pub returns : goal.returns
returns c =
    let l = c.loop-x in
    let a = c.args in
    reads_end a.n a.w a.at a.len a.marks.now a.scratch.now.spots a.scratch.now.across a.scratch.now.down a.part.now (omega arith) l.part l.x (omega (arith, l.invariant.bound)) l.invariant
