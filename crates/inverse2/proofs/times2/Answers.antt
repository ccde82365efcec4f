-- `inverse2::times2` meets its contract. Assumes nothing.
use Rattle.inverse2.specs.Inverse.{times2_of}
use Rattle.inverse2.proofs.times2.Goals as goal

pub returns : goal.returns
unfolding times2_of
returns c = cc
