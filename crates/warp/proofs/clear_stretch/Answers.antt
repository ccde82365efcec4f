-- `warp::clear_stretch` meets its contract. Assumes nothing.
use mathlib.Core.Path.{refl}
use native.Mathlib.Omega.{arith}
use Rattle.floats.specs.F32.{0f}
use Rattle.blends.proofs.Stretch.{stretch_start, stretch_more, stretch_end}
use Rattle.warp.proofs.clear_stretch.Goals as goal

pub loop-x-init : goal.loop-x-init
loop-x-init c =
    let a = c.args in
    stretch_start a.n a.from a.from a.to (λ _ _. 0f) a.part.now (omega arith)

pub loop-x-preserved : goal.loop-x-preserved
loop-x-preserved c =
    let l = c.loop-x in
    let a = c.args in
    stretch_more a.n a.from a.from a.to (λ _ _. 0f) a.part.now (omega arith) l.part l.x _ _ _ _ _ _ (omega arith) l.invariant (omega (arith, l.invariant.low)) (omega (arith, l.invariant.low)) (omega (arith, l.invariant.low)) refl refl refl

pub returns : goal.returns
returns c =
    let l = c.loop-x in
    let a = c.args in
    stretch_end a.n a.from a.from a.to (λ _ _. 0f) a.part.now (omega arith) l.part l.x (omega (arith, l.invariant.bound)) l.invariant
