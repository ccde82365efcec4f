-- `pgm::skip` goes byte after byte. Assumes nothing.
use Prim.Native.Nat.{◌+◌, ◌≤◌, max}
use mathlib.Core.Bool.{false}
use lib.ListN.{length, drop}
use Rattle.pgm.specs.Pgm.{gap_of}
use Rattle.pgm.proofs.Gap.{Skipped}
use Rattle.pgm.proofs.skip.Given as goal

abbrev pub invariant-loop-i : goal.invariant-loop-i
invariant-loop-i l = record { skipped : Skipped l.s l.in_comment l.i (l.at + gap_of false (drop l.at l.s)); within : l.i ≤ max (length l.s) l.at }
