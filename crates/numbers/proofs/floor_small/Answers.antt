-- `numbers::floor_small` gives the floor as a whole number: 2 ^ 23 added and taken off leaves it or the next, and the test tells which. Assumes nothing.
use Rattle.std.proofs.Common.{Bool, T, sym, ap, ◌∙◌, subst}
use lib.Ieee.{Float}
use Rattle.lists.specs.Marked.{pick}
use Rattle.floats.specs.F32.{◌⊖◌, 0f, 1f}
use Rattle.numbers.proofs.Small.{nearly, floor_less}
use Rattle.numbers.proofs.Signs.{up_to_finite, nearly_unsigned}
use Rattle.numbers.proofs.floor_small.Goals as goal

pub is_below_finite-requires : goal.is_below_finite-requires
is_below_finite-requires c = (up_to_finite c.args.x 4194304 1 c.requires, nearly_unsigned c.args.x (subst T (sym c.well_formed.0.1) tt) c.requires)

pub returns : goal.returns
returns c =
    let x = c.args.x in
    ap (λ (v : Float). nearly x ⊖ v) (c.one_if.ensures ∙ ap (λ (b : Bool). pick b 1f 0f) c.is_below_finite.ensures) ∙ floor_less x (subst T (sym c.well_formed.0.1) tt) c.requires
