-- `frames::make_ready` meets its contract: the four steps one after another. Assumes nothing.
use native.Mathlib.Omega.{arith}
use Rattle.frames.proofs.Ready.{is_ready}
use Rattle.frames.proofs.make_ready.Goals as goal

pub returns : goal.returns
returns c =
    let a = c.args in
    rw (c.add_gradient_y.ensures, c.add_gradient_x.ensures, c.prepare-2.ensures, c.prepare.ensures)
    (is_ready a.template.now a.input.now a.w a.h a.tw a.th a.ksize a.work.now (omega arith) (omega arith) (omega arith) (omega arith))
