-- `series::z_of` meets its contract. Assumes nothing.
use Rattle.std.proofs.Common.{T, ◌∙◌, arith, lit<}
use denote.Floats.{passes}
use lib.Ieee.{binary32, fits}
use Rattle.lists.specs.Marked.{pick}
use Rattle.floats.proofs.Within.{within_finite}
use Rattle.floats.proofs.Values.{finite_number}
use Rattle.floats.proofs.Patterns.{pattern_lt}
use Rattle.series.proofs.Square.{square_is}
use Rattle.series.proofs.z_of.Goals as goal

pub float_to_bits-theta : goal.float_to_bits-theta
float_to_bits-theta c = finite_number c.args.theta (within_finite c.args.theta 2 1 c.requires)

pub square_of-requires : goal.square_of-requires
unfolding pick
square_of-requires c =
    let held : T (fits binary32 c.args.theta) =
    passes (fits binary32 c.args.theta) c.well_formed.0.1 in
    omega (arith, pattern_lt c.args.theta 1073741825 2 1 held c.requires (lit< tt))

pub returns : goal.returns
returns c =
    let held : T (fits binary32 c.args.theta) =
    passes (fits binary32 c.args.theta) c.well_formed.0.1 in
    (c.square_of.ensures.0 ∙ square_is c.args.theta held c.requires, c.square_of.ensures.1)
