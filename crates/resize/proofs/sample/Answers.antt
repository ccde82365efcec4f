-- `resize::sample` reads four bytes inside the frame and blends them as it is defined. Assumes nothing.
use Rattle.resize.specs.Resize.{bilinear_of}
use Rattle.resize.proofs.sample.Goals as goal

pub returns : goal.returns
unfolding bilinear_of
returns c = rw (c.blend.ensures, c.blend-below.ensures, c.gray-4.ensures, c.gray-3.ensures, c.blend-above.ensures, c.gray-2.ensures, c.gray.ensures)
