-- `text::put_line` puts six numbers, one behind the other. Assumes nothing.
use Rattle.std.proofs.Common.{arith, w16}
use mir.ValLaws.{to_z-of_z}
use Rattle.text.proofs.Digits.{decimal_is}
use Rattle.text.proofs.Pieces.{then_wrote, wrote_as, frame_pieces}
use Rattle.text.proofs.put_line.Goals as goal

pub returns : goal.returns
returns c =
    let a = c.args in
    let r = c.ranges in
    let w1 = then_wrote c.put_number-a.ensures c.put_number-b.ensures (omega (arith, c.requires)) in
    let w2 = then_wrote w1 c.put_number-c.ensures (omega (arith, c.requires)) in
    let w3 = then_wrote w2 c.put_signed-d.ensures (omega (arith, c.requires)) in
    let w4 = then_wrote w3 c.put_signed-e.ensures (omega (arith, c.requires)) in
    let w5 = then_wrote w4 c.put_signed.ensures (omega (arith, c.requires)) in
    wrote_as w5
    (rw (
      decimal_is a.position (omega (arith, r.position.fits)),
      decimal_is a.number (omega (arith, r.number.fits)),
      decimal_is a.passes (omega (arith, r.passes.fits)),
      to_z-of_z w16 a.dx r.dx,
      to_z-of_z w16 a.dy r.dy,
      to_z-of_z w16 a.turn r.turn,
    ) (frame_pieces a.position a.number a.passes a.dx a.dy a.turn))
    (omega (arith, w5.bound))
