-- `inverse::times` meets its contract. Assumes nothing.
use Rattle.inverse.specs.Inverse.{times_of}
use Rattle.inverse.proofs.times.Goals as goal

pub returns : goal.returns
unfolding times_of
returns c = cc
