-- `places::point_x` meets its contract. Assumes nothing.
use Rattle.places.specs.Point.{sx_of}
use Rattle.places.proofs.point_x.Goals as goal

pub returns : goal.returns
unfolding sx_of
returns c = rw (c.to_f32_short.ensures, c.to_f32_short-2.ensures)
