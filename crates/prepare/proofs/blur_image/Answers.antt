-- `prepare::blur_image` meets its contract: the images 0, 1 and 2 of the part from the image j on are j, j + 1 and j + 2. Assumes nothing.
use Prim.Native.Nat.{◌*◌, ◌-◌}
use native.Mathlib.Omega.{arith}
use lib.ListN.{length}
use Rattle.blur.specs.Blur.{rows_of, columns_of}
use Rattle.prepare.proofs.Frames.{length_rows, length_columns}
use Rattle.prepare.proofs.Parts.{blur_back}
use Rattle.prepare.proofs.blur_image.Goals as goal

pub returns : goal.returns
returns c =
    let a = c.args in
    let n = a.w * a.h in
    let xs = a.work.now in
    blur_back n a.j (length xs - a.j * n) xs (omega arith) (rows_of a.ksize a.w a.h) (columns_of a.ksize a.w a.h) (length_rows a.ksize a.w a.h) (length_columns a.ksize a.w a.h) (omega arith) _ c.gaussian_blur_separable.ensures
