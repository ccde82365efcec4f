-- `warp::warp_row` meets its contract: a piece at a turn. Assumes nothing.
use Prim.Native.Nat.{◌*◌}
use mathlib.Core.Path.{refl, ◌∙◌}
use native.Mathlib.Omega.{arith}
use Rattle.lists.proofs.Fill.{row_in}
use Rattle.warp.proofs.Frame.{onward_none, onward_more, onward_holding}
use Rattle.warp.proofs.warp_row.Goals as goal

pub loop-x-init : goal.loop-x-init
loop-x-init c =
    let a = c.args in
    (onward_none a.map a.w a.h (a.y * a.w) a.part.now a.marks.now c.requires.4, omega arith, refl, refl)

pub warp_piece-requires : goal.warp_piece-requires
warp_piece-requires c =
    let l = c.loop-x in
    let a = c.args in
    let k = c.min-len.ensures in
    let i = l.invariant in
    let room = row_in a.w a.y a.h c.requires.1 in (
      c.requires.0,
      c.requires.1,
      omega (arith, k, i.1),
      omega (arith, i.2, c.requires.2),
      omega (arith, i.3, c.requires.3),
      omega (arith, k),
      onward_holding a.map a.w a.h (a.y * a.w) l.x 0 (omega (arith, room, i.1)) a.part.now a.marks.now (c.requires.2, c.requires.3) l.part l.marks i.0,
    )

pub loop-x-preserved : goal.loop-x-preserved
loop-x-preserved c =
    let l = c.loop-x in
    let a = c.args in
    let i = l.invariant in
    let k = c.warp_piece.auto in
    let few = c.min-len.ensures in
    let room = row_in a.w a.y a.h c.requires.1 in (
      onward_more a.map a.w a.h (a.y * a.w) l.x _ (omega (arith, room, i.1, few)) a.part.now a.marks.now (c.requires.2, c.requires.3) l.part l.marks i.0 _ _ c.warp_piece.ensures,
      omega (arith, few, i.1),
      k.part ∙ i.2,
      k.marks ∙ i.3,
    )
