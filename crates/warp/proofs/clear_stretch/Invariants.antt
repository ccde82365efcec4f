-- `warp::clear_stretch` meets its contract. Assumes nothing.
use Rattle.floats.specs.F32.{0f}
use Rattle.blends.proofs.Stretch.{StretchHeld}
use Rattle.warp.proofs.clear_stretch.Given as goal

abbrev pub invariant-loop-x : goal.invariant-loop-x
invariant-loop-x l = StretchHeld l.n l.from l.from l.to (λ _ _. 0f) l.initial.part l.part l.x
