-- `settings::scaled` is the side times the edge over the longer side, from 0 to 4,096. Assumes nothing.
use mathlib.Core.Path.{sym, ap₂, subst}
use lib.Ieee.{Float}
use Rattle.floats.specs.Bound.{UpTo}
use Rattle.floats.specs.F32.{◌⊗◌, ◌⊘◌}
use Rattle.settings.specs.Sides.{scaled_side_of}
use Rattle.settings.proofs.Resizing.{scaled_upto}
use Rattle.settings.proofs.scaled.Goals as goal

pub returns : goal.returns
unfolding scaled_side_of
returns c =
    let a = c.args in
    let p = c.requires in
    let is = ap₂ ◌⊗◌ c.to_f32.ensures (ap₂ ◌⊘◌ c.to_f32-2.ensures c.to_f32-3.ensures) in
    (is, subst (λ (x : Float). UpTo x 4096 1) (sym is) (scaled_upto a.edge a.long a.s p.0 p.1 p.2 p.3))
