-- `blends::by_blocks` meets its contract: a turn reads some more pixels of the stretch, in one of two ways. Assumes nothing.
use Prim.Native.Nat.{◌+◌}
use mathlib.Core.Path.{sym, ◌∙◌}
use native.Mathlib.Omega.{arith}
use Rattle.blends.proofs.Stretch.{stretch_start, stretch_end, taken_block}
use Rattle.blends.proofs.by_blocks.Goals as goal

pub loop-x-init : goal.loop-x-init
loop-x-init c =
    let a = c.args in
    stretch_start a.n (a.at + a.from) a.from a.to _ a.part.now (omega arith)

pub breaks-broken-requires : goal.breaks-broken-requires
breaks-broken-requires c = (omega arith, omega arith, omega arith, λ x p q. omega (arith, c.requires.1.6 x (omega (arith, c.loop-x.invariant.low)) (omega arith)))

pub by_run-requires : goal.by_run-requires
by_run-requires c =
    let i = c.loop-x.invariant in (
      omega arith,
      sym c.breaks-broken.ensures ∙ c.if-broken-eq0.true,
      (omega arith, omega arith, omega (arith, i.part_length), omega arith, omega arith, omega arith, λ x p q. c.requires.1.6 x (omega (arith, i.low)) (omega arith)),
    )

pub by_place-requires : goal.by_place-requires
by_place-requires c =
    let i = c.loop-x.invariant in
    (omega arith, omega arith, omega (arith, i.part_length), omega arith, omega arith, omega arith, λ x p q. c.requires.1.6 x (omega (arith, i.low)) (omega arith))

pub loop-x-preserved-then-broken-eq0 : goal.loop-x-preserved-then-broken-eq0
loop-x-preserved-then-broken-eq0 c =
    let l = c.loop-x in
    let a = c.args in
    taken_block a.n a.w a.at a.from a.to a.spots.now a.across.now a.down.now a.part.now (omega arith) l.part _ l.x c.min-end.result (omega arith) (omega arith) l.invariant c.by_run.ensures

pub loop-x-preserved : goal.loop-x-preserved
loop-x-preserved c =
    let l = c.loop-x in
    let a = c.args in
    taken_block a.n a.w a.at a.from a.to a.spots.now a.across.now a.down.now a.part.now (omega arith) l.part _ l.x c.min-end.result (omega arith) (omega arith) l.invariant c.by_place.ensures

pub returns : goal.returns
returns c =
    let l = c.loop-x in
    let a = c.args in
    stretch_end a.n (a.at + a.from) a.from a.to _ a.part.now (omega arith) l.part l.x (omega (arith, l.invariant.bound)) l.invariant
