-- `vectors::passes::flagged` meets its contract. Assumes nothing.
use mathlib.Core.Path.{◌≡◌}
use native.Mathlib.Omega.{arith}
use Rattle.lists.proofs.Fill.{fill_none, front_more}
use Rattle.marks.specs.Marks.{on}
use Rattle.bits.specs.Packing.{flag_of}
use Rattle.vectors.proofs.passes.flagged.Goals as goal

pub loop-i-init : goal.loop-i-init
loop-i-init c = fill_none _ _ _

pub loop-i-preserved : goal.loop-i-preserved
loop-i-preserved c =
    let l = c.loop-i in
    let a = c.args in
    rw l.invariant (front_more a.flags.now (λ k. flag_of (on a.marks.now k) k) l.i _ (omega arith) c.flag.ensures)

pub returns : goal.returns
returns c =
    let end : c.loop-i.i ≡ c.args.n = omega arith in
    rw end at c.loop-i.invariant
