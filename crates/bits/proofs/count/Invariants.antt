-- `bits::count` meets its contract. Assumes nothing.
use Prim.Native.Nat.{◌*◌, ◌≤◌}
use mathlib.Core.Path.{◌≡◌}
use Rattle.bits.specs.Words.{ones_of}
use Rattle.bits.proofs.count.Given as goal

abbrev pub invariant-loop-word : goal.invariant-loop-word
invariant-loop-word l = (l.sum ≡ ones_of l.words l.word-index) × (l.sum ≤ 64 * l.word-index)
