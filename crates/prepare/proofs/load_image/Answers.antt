-- `prepare::load_image` meets its contract: a frame in the front of the part from the image j on is the image j. Assumes nothing.
use Prim.Native.Nat.{◌*◌, ◌-◌}
use native.Mathlib.Omega.{arith}
use lib.ListN.{length}
use Rattle.prepare.proofs.Frames.{length_scaled}
use Rattle.prepare.proofs.Parts.{load_back}
use Rattle.prepare.proofs.load_image.Goals as goal

pub returns : goal.returns
returns c =
    let a = c.args in
    let n = a.tw * a.th in
    let xs = a.work.now in
    load_back n a.j (length xs - a.j * n) xs (omega arith) _ _ (length_scaled _ _ _ _ _ (omega arith)) (omega arith) c.load.ensures
