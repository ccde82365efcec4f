-- `stream::fresh` meets its contract. Assumes nothing.
use Rattle.stream.proofs.fresh.Goals as goal

pub returns : goal.returns
returns c = cc
