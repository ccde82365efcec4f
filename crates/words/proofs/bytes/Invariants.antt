-- `words::bytes`, the loop's invariant: the first i bytes are those of the words.
use mathlib.Core.Path.{◌≡◌}
use Prim.Native.Nat.{◌+◌, ◌%◌}
use lib.ListN.{take}
use Rattle.lists.specs.Lists.{tab}
use Rattle.words.specs.Words.{stored_at}
use Rattle.words.proofs.bytes.Given as goal

abbrev pub invariant-loop-i : goal.invariant-loop-i
invariant-loop-i l = take l.i l.out ≡ tab l.i (λ k. stored_at l.words (l.from + k) % 256)
