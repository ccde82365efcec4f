-- `kernel::divide` meets its contract. The loop's invariant: the first i numbers are divided. Assumes nothing.
use mathlib.Core.Path.{◌≡◌}
use lib.ListN.{get_or}
use lib.Ieee.{nan}
use Rattle.lists.specs.Lists.{tab, put}
use Rattle.floats.specs.F32.{◌⊘◌}
use Rattle.kernel.proofs.divide.Given as goal

abbrev pub invariant-loop-i : goal.invariant-loop-i
invariant-loop-i l = l.k ≡ put l.initial.k 0 (tab l.i (λ j. get_or l.initial.k j nan ⊘ l.sum))
