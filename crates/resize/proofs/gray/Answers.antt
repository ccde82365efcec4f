-- `resize::gray` reads the byte of the column in the row. Assumes nothing.
use Rattle.resize.specs.Resize.{byte_of}
use Rattle.resize.proofs.gray.Goals as goal

pub returns : goal.returns
unfolding byte_of
returns c = rw (c.from-row.ensures, c.from-column.ensures) at c.byte_to_f32.ensures
