-- `pgm::put_pixels` puts pixel after pixel. Assumes nothing.
use Rattle.pgm.proofs.Raster.{Filled}
use Rattle.pgm.proofs.put_pixels.Given as goal

abbrev pub invariant-loop-i : goal.invariant-loop-i
invariant-loop-i l = Filled l.plain l.max l.s l.at l.n l.initial.out l.out l.a l.i
