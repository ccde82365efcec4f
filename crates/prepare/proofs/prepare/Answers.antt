-- `prepare::prepare` meets its contract: at size 1 the frame goes to the image j + 2 at once, else the blur takes it there from the image j. Assumes nothing.
use Prim.Native.Nat.{◌+◌, ◌*◌, ◌≤◌}
use mathlib.Core.Path.{◌≡◌}
use native.Mathlib.Omega.{arith}
use lib.ListN.{length}
use Rattle.lists.specs.Lists.{image}
use Rattle.lists.proofs.Fill.{row_in}
use Rattle.lists.proofs.Images.{image_set}
use Rattle.prepare.specs.Prepared.{scaled_of}
use Rattle.prepare.proofs.Frames.{length_scaled}
use Rattle.prepare.proofs.Work.{in_one, in_more}
use Rattle.prepare.proofs.prepare.Goals as goal

pub returns-then-ksize-eq1 : goal.returns-then-ksize-eq1
returns-then-ksize-eq1 c = rw (in_one _ _ _ _ _ _ _ _ c.if-ksize-eq1.true) c.load_image.ensures

pub returns : goal.returns
returns c =
    let room : let a = c.args in (a.j + 2) * (a.tw * a.th) + a.tw * a.th ≤ length a.work.now =
    let a = c.args in omega (arith, row_in (a.tw * a.th) (a.j + 2) 12 (omega arith)) in
    let a = c.args in
    let n = a.tw * a.th in
    let xs = a.work.now in
    let r = room in
    let s = scaled_of a.bytes.now a.w a.h a.tw a.th in
    let q : image n a.j c.load_image-2.new.work ≡ s = rw c.load_image-2.ensures (image_set n a.j xs s (length_scaled _ _ _ _ _ (omega arith)) (omega arith)) in
    rw (in_more _ _ _ _ _ _ _ _ c.if-ksize-eq1.false) (rw (q, c.load_image-2.ensures) at c.blur_image.ensures)
