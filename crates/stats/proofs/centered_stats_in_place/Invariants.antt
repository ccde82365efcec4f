-- `stats::centered_stats_in_place` meets its contract. The loop's invariant: only the images 4 and 5 have changed, there the marked places that the walk has passed hold the
-- centred numbers, and the three sums are those over these places. Assumes nothing.
use mathlib.Core.Path.{◌≡◌}
use Rattle.bits.proofs.Walks.{Along}
use Rattle.stats.proofs.Centring.{CentredTo, three_of}
use Rattle.stats.proofs.centered_stats_in_place.Given as goal

abbrev pub invariant-loop-r : goal.invariant-loop-r
invariant-loop-r l = Along l.marks l.to l.r-iterator × CentredTo l.marks l.n l.mean l.initial.part l.r-iterator.at l.part × (l.s ≡ three_of l.marks l.n l.mean l.initial.part l.r-iterator.at)
