-- `blur::add_right` meets its contract. Assumes nothing.
use mathlib.Core.Path.{◌∙◌, ap}
use mathlib.Core.List.{List}
use Prim.Native.Nat.{◌+◌, ◌-◌}
use lib.Ieee.{Float}
use Rattle.blur.specs.Pass.{added_of}
use Rattle.blur.proofs.Taps.{right_joined}
use Rattle.blur.proofs.add_right.Goals as goal

pub returns : goal.returns
returns c =
    let a = c.args in
    let m = c.min-m.result in
    c.add_same.ensures
    ∙ ap (λ (z : List Float). added_of z (a.dst + (a.w - m)) m (λ _. a.src + (a.w - 1)) a.weight) c.add_run.ensures
    ∙ right_joined a.part.now a.dst a.src a.w a.n m a.weight c.min-m.ensures c.requires.0 c.requires.1 c.requires.2
