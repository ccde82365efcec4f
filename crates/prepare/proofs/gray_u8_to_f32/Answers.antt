-- `prepare::gray_u8_to_f32` meets its contract. The loop's invariant: the first i bytes stand in `out` as f32, and nothing else has changed. Assumes nothing.
use mathlib.Core.Path.{◌≡◌}
use native.Mathlib.Omega.{arith}
use lib.ListN.{length}
use Rattle.lists.proofs.Fill.{fill_none, front_more}
use Rattle.prepare.specs.Prepared.{gray_of}
use Rattle.prepare.proofs.Frames.{gray_at}
use Rattle.prepare.proofs.gray_u8_to_f32.Goals as goal

pub loop-i-init : goal.loop-i-init
loop-i-init c = fill_none _ _ _

pub loop-i-preserved : goal.loop-i-preserved
loop-i-preserved c =
    let a = c.args in
    rw c.loop-i.invariant (front_more a.out.now (gray_at a.img.now) c.loop-i.i c.byte_to_f32.result (omega arith) c.byte_to_f32.ensures)

pub returns : goal.returns
unfolding gray_of
returns c =
    let q : c.loop-i.i ≡ length c.args.img.now = omega arith in
    rw q at c.loop-i.invariant
