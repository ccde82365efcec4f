-- `kernel::weights` meets its contract. The loop's invariant: the first i weights are stored and summed. Assumes nothing.
use mathlib.Core.Path.{sym, ap, ◌∙◌}
use native.Mathlib.Omega.{arith}
use lib.Ieee.{Float}
use Rattle.lists.proofs.Fill.{fill_none, front_more}
use Rattle.floats.specs.F32.{◌⊕◌}
use Rattle.floats.specs.Sums.{sum_to}
use Rattle.floats.proofs.Sums.{to_none, to_more}
use Rattle.kernel.specs.Kernel.{weight_of}
use Rattle.kernel.proofs.weights.Goals as goal

pub loop-i-init : goal.loop-i-init
loop-i-init c = (sym (to_none _), fill_none _ _ _)

pub loop-i-preserved : goal.loop-i-preserved
loop-i-preserved c =
    let a = c.args in
    let i = c.loop-i.i in
    let f = weight_of a.ksize in
    let v = c.weight-v.result in (
      ap (λ (t : Float). t ⊕ v) c.loop-i.invariant.0 ∙ ap (λ (t : Float). sum_to f i ⊕ t) c.weight-v.ensures ∙ sym (to_more f i),
      rw c.loop-i.invariant.1 (front_more a.k.now f i v (omega arith) c.weight-v.ensures),
    )
