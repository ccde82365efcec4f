-- `numbers::to_f32_short` meets its contract. Assumes nothing.
use native.Mathlib.Omega.{arith}
use Rattle.floats.proofs.Patterns.{number_pattern}
use Rattle.numbers.proofs.Short.{short_is}
use Rattle.numbers.proofs.to_f32_short.Goals as goal

pub float_from_bits-result : goal.float_from_bits-result
float_from_bits-result c = number_pattern _ (omega arith)

pub returns : goal.returns
returns c = short_is c.args.n c.requires
