-- `pgm2rec::words` takes each word once, in order, as long as it goes on. Assumes nothing.
use Prim.Native.Nat.{◌-◌}
use Rattle.pgm2rec.proofs.Walk.{Walking}
use Rattle.pgm2rec.proofs.words.Given as goal

abbrev pub invariant-loop-run : goal.invariant-loop-run
invariant-loop-run l = Walking l.count l.run

abbrev pub decreases-loop-run : goal.decreases-loop-run
decreases-loop-run l = l.count - l.run.next
