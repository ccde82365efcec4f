-- `bits::fold_range` meets its contract. Assumes nothing.
use mathlib.Core.Path.{◌∙◌}
use native.Mathlib.Omega.{arith}
use Rattle.lists.proofs.Fold.{range_none, range_turn}
use Rattle.bits.proofs.walk.fold_range.Goals as goal

pub loop-i-init : goal.loop-i-init
loop-i-init g c = λ f h. range_none _ _ _

pub loop-i-preserved : goal.loop-i-preserved
loop-i-preserved g c = λ f h. let l = c.loop-i in h l.t l.i _ (omega arith) c.step-t.ensures ∙ range_turn f _ _ l.i l.t l.auto.i (l.invariant f h)
