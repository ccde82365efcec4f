-- `kernel::divide` meets its contract. The loop's invariant: the first i numbers are divided. Assumes nothing.
use mathlib.Core.Path.{◌≡◌, ap}
use Prim.Native.Nat.{ℕ}
use native.Mathlib.Omega.{arith}
use lib.ListN.{get_or}
use lib.Ieee.{Float, nan}
use Rattle.lists.specs.Lists.{tab, put}
use Rattle.lists.proofs.Fill.{fill_none, fill_after, front_more}
use Rattle.floats.specs.F32.{◌⊘◌}
use Rattle.kernel.proofs.divide.Goals as goal

pub loop-i-init : goal.loop-i-init
loop-i-init c = fill_none _ _ _

pub loop-i-preserved : goal.loop-i-preserved
loop-i-preserved c =
    let a = c.args in
    let xs = a.k.now in
    let i = c.loop-i.i in
    let f : ℕ → Float = λ j. get_or xs j nan ⊘ a.sum in
    let same : get_or (put xs 0 (tab i f)) i nan ≡ get_or xs i nan = fill_after xs 0 f i (omega arith) i nan (omega arith) in
    rw c.loop-i.invariant (front_more xs f i _ (omega arith) (ap (λ (z : Float). z ⊘ a.sum) same))
