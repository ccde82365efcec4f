-- `inverse::dot` meets its contract. Assumes nothing.
use mathlib.Core.Path.{refl}
use Rattle.inverse.specs.Inverse.{dot_of}
use Rattle.inverse.proofs.dot.Goals as goal

pub returns : goal.returns
unfolding dot_of
returns c = refl
