-- `bits::total` meets its contract. Assumes nothing.
use Prim.Native.Nat.{◌*◌, ◌^◌, ◌≤◌}
use mathlib.Core.Path.{◌≡◌}
use Rattle.bits.specs.Packing.{total_of}
use Rattle.bits.proofs.total.Given as goal

abbrev pub invariant-loop-flag : goal.invariant-loop-flag
invariant-loop-flag l = (l.sum ≤ l.flag-index * 2 ^ 32) × (l.sum ≡ total_of l.flags l.at l.flag-index)
