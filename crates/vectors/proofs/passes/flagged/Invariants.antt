-- `vectors::passes::flagged`, the loop's invariant: the first i flags are made.
use mathlib.Core.Path.{◌≡◌}
use Rattle.lists.specs.Lists.{tab, put}
use Rattle.marks.specs.Marks.{on}
use Rattle.bits.specs.Packing.{flag_of}
use Rattle.vectors.proofs.passes.flagged.Given as goal

abbrev pub invariant-loop-i : goal.invariant-loop-i
invariant-loop-i l = l.flags ≡ put l.initial.flags 0 (tab l.i (λ k. flag_of (on l.marks k) k))
