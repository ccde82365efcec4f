-- `boundary::put_pins` meets its contract. Assumes nothing.
use native.Mathlib.Omega.{arith}
use lib.ListN.{length-set}
use mir.Syntax.{w16}
use mir.Facts.{to_z-of_z}
use Rattle.boundary.specs.Boundary.{three_of}
use Rattle.boundary.proofs.Front.{stored_front, short_front}
use Rattle.boundary.proofs.put_pins.Goals as goal

pub returns-then-out-lt3 : goal.returns-then-out-lt3
unfolding three_of
returns-then-out-lt3 c = short_front _ (three_of c.args.p) c.if-out-lt3.true

pub bounds-out-1 : goal.bounds-out-1
bounds-out-1 c = simp length-set (omega arith)

pub bounds-out-2 : goal.bounds-out-2
bounds-out-2 c = simp length-set (omega arith)

pub returns : goal.returns
unfolding three_of
returns c =
    let a = c.args in
    let fit = c.struct_told-3-1.given in
    rw (to_z-of_z {w = w16} {z = a.p.dx} (record { sfits = fit.0.1 }), to_z-of_z {w = w16} {z = a.p.dy} (record { sfits = fit.1.0.1 }), to_z-of_z {w = w16} {z = a.p.turn} (record { sfits = fit.1.1.0.1 }))
    (stored_front _ (three_of a.p) (omega arith))
