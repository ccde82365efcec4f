-- `stream::passed` meets its contract. Assumes nothing.
use Rattle.stream.specs.Stream.{passed_of}
use Rattle.stream.proofs.passed.Goals as goal

pub returns : goal.returns
unfolding passed_of
returns c = cc
