-- `aligner::keep` meets its contract. The loop's invariant: the first i bytes of the frame stand at the store's front. Assumes nothing.
use mathlib.Core.Path.{◌≡◌, refl, ◌∙◌}
use native.Mathlib.Omega.{arith}
use lib.ListN.{length, length-set}
use Rattle.lists.proofs.Copy.{copy_none, copy_more, copy_all}
use Rattle.aligner.proofs.keep.Goals as goal

pub loop-i-init : goal.loop-i-init
loop-i-init c = (refl, copy_none _ c.args.frame.now)

pub loop-i-preserved : goal.loop-i-preserved
loop-i-preserved c =
    let a = c.args in
    (simp length-set c.loop-i.invariant.0, rw c.loop-i.invariant.1 (copy_more a.store.now a.frame.now c.loop-i.i 0 (omega arith) (omega arith)))

pub returns : goal.returns
returns c =
    let end : c.loop-i.i ≡ length c.args.frame.now = omega arith in
    c.loop-i.invariant.1 ∙ copy_all _ _ _ end
