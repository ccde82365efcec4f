-- `bits::pack` meets its contract. Assumes nothing.
use Prim.Native.Nat.{◌<◌}
use mathlib.Core.Path.{◌∙◌}
use native.Mathlib.Omega.{arith}
use lib.ListN.{length-set}
use Rattle.bits.proofs.Packing.{packed_more, total_is}
use Rattle.bits.proofs.pack.Goals as goal

pub loop-x-preserved : goal.loop-x-preserved
loop-x-preserved c =
    let some : 0 < c.min-k.result =
    omega arith in
    let l = c.loop-x in
    let a = c.args in (
      omega arith,
      simp length-set l.invariant.1,
      packed_more a.flags.now a.words.now l.words a.p l.x c.min-k.result _ _ some (omega arith) (c.total-bits.ensures ∙ total_is a.flags.now a.p a.len c.requires.3 l.x c.min-k.result (omega arith) (omega arith)) (omega arith) l.invariant.2,
    )
