-- `sums::project` meets its contract. The loop's invariant: the sixteen sums are those over the marked places that the walk has passed. Assumes nothing.
use Rattle.bits.proofs.Walks.{Along}
use Rattle.sums.proofs.Folds.{SumsTo}
use Rattle.sums.proofs.project.Given as goal

abbrev pub invariant-loop-r : goal.invariant-loop-r
invariant-loop-r l = Along l.marks l.to l.r-iterator × SumsTo l.marks l.n l.part l.q l.m l.r-iterator.at
