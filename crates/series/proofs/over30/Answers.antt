-- `series::over30` meets its contract. Assumes nothing.
use Rattle.std.proofs.Common.{false, negsuc, ap, ◌∙◌, le_of_lt}
use lib.Ieee.{Float, fin, binary32, mul, of_bits}
use Rattle.series.proofs.Scale.{scaled_is}
use Rattle.series.proofs.over30.Goals as goal

pub returns : goal.returns
unfolding of_bits
returns c = ap (λ (x : Float). mul binary32 x (fin false 1 (negsuc 29))) c.nearest_u32_to_f32.ensures ∙ scaled_is c.args.v (le_of_lt c.ranges.v.fits)
