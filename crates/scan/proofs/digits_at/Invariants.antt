-- `scan::digits_at` reads digit after digit. Assumes nothing.
use Prim.Native.Nat.{◌≤◌, max}
use lib.ListN.{length}
use Rattle.scan.proofs.Steps.{Read}
use Rattle.scan.proofs.digits_at.Given as goal

abbrev pub invariant-loop-next : goal.invariant-loop-next
invariant-loop-next l = record { read : Read l.s l.at l.before l.most l.value l.next; within : l.next ≤ max (length l.s) l.at }
