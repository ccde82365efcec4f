-- `places::point_y` meets its contract. Assumes nothing.
use Rattle.places.specs.Point.{sy_of}
use Rattle.places.proofs.point_y.Goals as goal

pub returns : goal.returns
unfolding sy_of
returns c = rw (c.to_f32_short.ensures, c.to_f32_short-2.ensures)
