-- `calls::fill_work`, the loop's invariant: the first i floats are those before the call.
use mathlib.Core.Path.{◌≡◌}
use lib.ListN.{take}
use Rattle.lists.specs.Lists.{tab}
use Rattle.calls.specs.Calls.{float_before}
use Rattle.calls.proofs.fill_work.Given as goal

abbrev pub invariant-loop-i : goal.invariant-loop-i
invariant-loop-i l = take l.i l.work ≡ tab l.i float_before
