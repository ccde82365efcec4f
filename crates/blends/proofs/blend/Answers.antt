-- `blends::blend` meets its contract. Assumes nothing.
use mathlib.Core.Path.{refl}
use Rattle.blends.specs.Blend.{four_of}
use Rattle.blends.specs.Reads.{four_at}
use Rattle.blends.proofs.blend.Goals as goal

pub returns : goal.returns
unfolding four_at four_of
returns c = refl
