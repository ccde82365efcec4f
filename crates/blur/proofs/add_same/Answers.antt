-- `blur::add_same` meets its contract. The loop's invariant: the first i numbers are added to. Assumes nothing.
use mathlib.Core.Path.{refl}
use native.Mathlib.Omega.{arith}
use Rattle.blur.proofs.Taps.{added_none, added_more}
use Rattle.blur.proofs.add_same.Goals as goal

pub loop-i-init : goal.loop-i-init
loop-i-init c = added_none _ _ _ _

pub loop-i-preserved : goal.loop-i-preserved
loop-i-preserved c =
    let a = c.args in
    rw c.loop-i.invariant (added_more a.part.now a.dst (λ _. a.src) a.weight c.loop-i.i _ (omega arith) refl)
