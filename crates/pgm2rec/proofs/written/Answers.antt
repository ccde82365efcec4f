-- `pgm2rec::written` goes by whether it went out. Assumes nothing.
use Rattle.pgm2rec.specs.Course.{written_of}
use Rattle.pgm2rec.proofs.written.Goals as goal

pub returns-then-not-is_out : goal.returns-then-not-is_out
unfolding written_of
returns-then-not-is_out c = rw c.if-not-is_out.true c.stopped.ensures

pub returns : goal.returns
unfolding written_of
returns c = rw c.if-not-is_out.false
