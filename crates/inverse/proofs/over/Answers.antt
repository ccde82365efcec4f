-- `inverse::over` meets its contract. Assumes nothing.
use mathlib.Core.Path.{refl}
use Rattle.inverse.specs.Inverse.{rows_over_of}
use Rattle.inverse.proofs.over.Goals as goal

pub returns : goal.returns
unfolding rows_over_of
returns c = refl
