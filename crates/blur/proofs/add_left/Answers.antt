-- `blur::add_left` meets its contract. Assumes nothing.
use mathlib.Core.Path.{◌∙◌, ap}
use mathlib.Core.List.{List}
use lib.Ieee.{Float}
use Prim.Native.Nat.{◌+◌, ◌-◌}
use Rattle.blur.specs.Pass.{added_of}
use Rattle.blur.proofs.Taps.{left_joined}
use Rattle.blur.proofs.add_left.Goals as goal

pub returns : goal.returns
returns c =
    let a = c.args in
    let m = c.min-m.result in
    c.add_run.ensures
    ∙ ap (λ (z : List Float). added_of z (a.dst + m) (a.w - m) (λ i. a.src + i) a.weight) c.add_same.ensures
    ∙ left_joined a.part.now a.dst a.src a.w a.n m a.weight c.min-m.ensures c.requires.0 c.requires.1 c.requires.2
