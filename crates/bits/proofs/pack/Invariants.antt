-- `bits::pack` meets its contract. Assumes nothing.
use Prim.Native.Nat.{◌-◌, ◌≤◌}
use mathlib.Core.Path.{◌≡◌}
use lib.ListN.{length}
use Rattle.bits.specs.Packing.{Packed}
use Rattle.bits.proofs.pack.Given as goal

abbrev pub invariant-loop-x : goal.invariant-loop-x
invariant-loop-x l = (l.x ≤ l.len) × (length l.words ≡ length l.initial.words) × Packed l.flags l.p l.x l.initial.words l.words

abbrev pub decreases-loop-x : goal.decreases-loop-x
decreases-loop-x l = l.len - l.x
