-- `resize::blend` is the blend as it is defined. Assumes nothing.
use mathlib.Core.Path.{refl}
use Rattle.resize.specs.Resize.{lerp_of}
use Rattle.resize.proofs.blend.Goals as goal

pub returns : goal.returns
unfolding lerp_of
returns c = refl
