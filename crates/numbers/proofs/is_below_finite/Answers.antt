-- `numbers::is_below_finite` meets its contract: the sign of the difference is the comparison. Assumes nothing.
use Rattle.std.proofs.Common.{T, sym, subst}
use Rattle.numbers.proofs.Signs.{below_told, below_number}
use Rattle.numbers.proofs.is_below_finite.Goals as goal

pub float_to_bits-result : goal.float_to_bits-result
float_to_bits-result c = below_number c.args.a c.args.b (subst T (sym c.well_formed.0.1) tt) c.requires.0 c.requires.1

pub returns : goal.returns
returns c = below_told c.args.a c.args.b (subst T (sym c.well_formed.0.1) tt) c.requires.0 c.requires.1
