-- `series::steps` meets its contract. The loop's invariant: u is what the first i steps give. Assumes nothing.
use Rattle.std.proofs.Common.{◌≡◌}
use Rattle.series.specs.Recurrence.{steps_of}
use Rattle.series.specs.Series.{divisor_of}
use Rattle.series.proofs.steps.Given as goal

abbrev pub invariant-loop-i : goal.invariant-loop-i
invariant-loop-i l = l.u ≡ steps_of (divisor_of l.s) l.z l.top l.i
