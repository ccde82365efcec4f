-- `inverse2::dot2` meets its contract. Assumes nothing.
use mathlib.Core.Path.{refl}
use Rattle.inverse2.specs.Inverse.{dot2_of}
use Rattle.inverse2.proofs.dot2.Goals as goal

pub returns : goal.returns
unfolding dot2_of
returns c = refl
