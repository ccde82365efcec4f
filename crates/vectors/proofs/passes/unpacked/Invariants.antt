-- `vectors::passes::unpacked`, the loop's invariant: the first i marks are read.
use mathlib.Core.Path.{◌≡◌}
use Rattle.lists.specs.Lists.{tab, put}
use Rattle.bits.specs.Words.{bit_at}
use Rattle.vectors.proofs.passes.unpacked.Given as goal

abbrev pub invariant-loop-i : goal.invariant-loop-i
invariant-loop-i l = l.out ≡ put l.initial.out 0 (tab l.i (bit_at l.marks))
