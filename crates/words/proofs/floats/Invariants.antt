-- `words::floats`, the loop's invariant: the first i floats stand from `at` on.
use mathlib.Core.Path.{◌≡◌}
use Prim.Native.Nat.{◌+◌}
use Rattle.lists.specs.Lists.{tab, put}
use Rattle.words.specs.Words.{stored_at, float_of}
use Rattle.words.proofs.floats.Given as goal

abbrev pub invariant-loop-i : goal.invariant-loop-i
invariant-loop-i l = l.out ≡ put l.initial.out l.at (tab l.i (λ k. float_of (stored_at l.words (l.from + k))))
