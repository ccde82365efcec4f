-- `places::is_inside` meets its contract. Assumes nothing.
use mathlib.Core.Path.{◌∙◌}
use native.Mathlib.Omega.{arith}
use borrow.Author.Rules.{rules}
use Rattle.numbers.proofs.Signs.{whole_unsigned}
use Rattle.places.proofs.Finite.{inside_told}
use Rattle.places.proofs.is_inside.Goals as goal

pub is_below-requires-3 : goal.is_below-requires-3
is_below-requires-3 g c = λ e. ((c.requires.1 e).0, rw c.to_f32_short-right.ensures (whole_unsigned _ (omega (arith, c.requires.0.w_most))))

pub is_below-requires-4 : goal.is_below-requires-4
is_below-requires-4 g c = λ e. ((c.requires.1 e).1, rw c.to_f32_short-low.ensures (whole_unsigned _ (omega (arith, c.requires.0.h_most))))

pub returns : goal.returns
returns g c =
    let a = c.args in
    rw (c.is_below.ensures, c.is_below-2.ensures, c.is_below-3.ensures, c.is_below-4.ensures, c.to_f32_short-right.ensures, c.to_f32_short-low.ensures) (search rules ∙ inside_told a.w a.h a.sx a.sy)
