-- `calls::fill_work` meets its contract. Assumes nothing.
use mathlib.Core.Path.{◌≡◌, sym, ap, ◌∙◌}
use Prim.Native.Nat.{ℕ}
use native.Mathlib.Omega.{arith}
use lib.ListN.{length}
use lib.Seq.{take-length}
use Rattle.lists.specs.Lists.{tab}
use Rattle.lists.proofs.Grow.{tab_zero}
use Rattle.lists.proofs.Fill.{front_turn}
use Rattle.calls.specs.Calls.{float_before}
use Rattle.calls.proofs.fill_work.Goals as goal

pub loop-i-init : goal.loop-i-init
loop-i-init c = sym (tab_zero _)

pub loop-i-preserved : goal.loop-i-preserved
loop-i-preserved c = front_turn c.loop-i.work float_before c.loop-i.i _ (omega arith) c.loop-i.invariant c.float_before.ensures

pub returns : goal.returns
returns c =
    let l = c.loop-i in
    let end : l.i ≡ length l.work = omega arith in
    let whole : length l.work ≡ length c.args.work.now = omega arith in
    sym (take-length l.work) ∙ (rw end at l.invariant) ∙ ap (λ (k : ℕ). tab k float_before) whole
