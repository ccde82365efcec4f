-- `blur::add_run` meets its contract. The loop's invariant: the first i numbers are added to. Assumes nothing.
use mathlib.Core.Path.{◌≡◌, ap}
use Prim.Native.Nat.{ℕ, ◌+◌, ◌<◌}
use native.Mathlib.Omega.{arith}
use lib.ListN.{length, get_or}
use lib.Ieee.{Float, nan}
use Rattle.floats.specs.F32.{◌⊗◌}
use Rattle.blur.specs.Pass.{added_of}
use Rattle.blur.proofs.Taps.{added_none, added_before, added_more}
use Rattle.blur.proofs.add_run.Goals as goal

pub loop-i-init : goal.loop-i-init
loop-i-init c = added_none _ _ _ _

pub loop-i-preserved : goal.loop-i-preserved
loop-i-preserved c =
    let a = c.args in
    let xs = a.part.now in
    let i = c.loop-i.i in
    let spot : ℕ → ℕ = λ k. a.src + k in
    let fits : a.dst + i < length xs = omega arith in
    let same : get_or (added_of xs a.dst i spot a.weight) (spot i) nan ≡ get_or xs (spot i) nan = added_before xs a.dst spot a.weight i (omega arith) (spot i) (omega arith) in
    rw c.loop-i.invariant (added_more xs a.dst spot a.weight i _ fits (ap (λ (z : Float). z ⊗ a.weight) same))
