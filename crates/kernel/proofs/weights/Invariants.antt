-- `kernel::weights` meets its contract. The loop's invariant: the first i weights are stored and summed. Assumes nothing.
use mathlib.Core.Path.{◌≡◌}
use Rattle.lists.specs.Lists.{tab, put}
use Rattle.floats.specs.Sums.{sum_to}
use Rattle.kernel.specs.Kernel.{weight_of}
use Rattle.kernel.proofs.weights.Given as goal

abbrev pub invariant-loop-i : goal.invariant-loop-i
invariant-loop-i l = (l.sum ≡ sum_to (weight_of l.ksize) l.i) × (l.k ≡ put l.initial.k 0 (tab l.i (weight_of l.ksize)))
