-- `reader::slide` meets its contract: the bytes are put at the front. Assumes nothing.
use Prim.Native.Nat.{◌-◌}
use mathlib.Core.Path.{◌≡◌, refl}
use native.Mathlib.Omega.{arith}
use lib.ListN.{length, take, drop, length-drop}
use lib.Seq.{length-take-le}
use Rattle.lists.specs.Lists.{put}
use Rattle.reader.proofs.slide.Goals as goal

pub returns : goal.returns
unfolding put
returns c =
    let a = c.args in
    let n = a.end - a.at in
    let l = drop a.at a.buf.now in
    let k : length (take n l) ≡ n = length-take-le n l (omega (arith, length-drop a.at a.buf.now)) in
    (refl, rw k c.copy_within.ensures.after)
