-- `resize::place` is the place as it is defined: whole numbers up to 4,096 become f32 exactly. Assumes nothing.
use Rattle.resize.specs.Resize.{place_of}
use Rattle.resize.proofs.place.Goals as goal

pub returns : goal.returns
unfolding place_of
returns c = rw (c.to_f32-3.ensures, c.to_f32-2.ensures, c.to_f32.ensures)
