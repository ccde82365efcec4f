-- `bits::is_marked` meets its contract. Assumes nothing.
use mathlib.Core.Path.{refl}
use Rattle.bits.specs.Words.{bit_at}
use Rattle.bits.proofs.is_marked.Goals as goal

pub returns : goal.returns
unfolding bit_at
returns c = refl
