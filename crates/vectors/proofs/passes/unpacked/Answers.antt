-- `vectors::passes::unpacked` meets its contract. Assumes nothing.
use mathlib.Core.Path.{◌≡◌, ap, ◌∙◌}
use native.Mathlib.Omega.{arith}
use Rattle.std.specs.Int.{from_bool}
use Rattle.lists.proofs.Fill.{fill_none, front_more}
use Rattle.bits.specs.Words.{bit_at, unpacked_of}
use Rattle.vectors.proofs.Packing.{bit_byte}
use Rattle.vectors.proofs.passes.unpacked.Goals as goal

pub loop-i-init : goal.loop-i-init
loop-i-init c = fill_none _ _ _

pub loop-i-preserved : goal.loop-i-preserved
loop-i-preserved c =
    let l = c.loop-i in
    let a = c.args in
    rw l.invariant (front_more a.out.now (bit_at a.marks.now) l.i _ (omega arith) (c.from.ensures ∙ ap from_bool c.is_marked.ensures ∙ bit_byte a.marks.now l.i))

pub returns : goal.returns
unfolding unpacked_of
returns c =
    let end : c.loop-i.i ≡ c.args.n = omega arith in
    rw end at c.loop-i.invariant
