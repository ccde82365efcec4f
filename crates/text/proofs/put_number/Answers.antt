-- `text::put_number` puts what itoa writes, and the byte. Assumes nothing.
use Rattle.std.proofs.Common.{◌∙◌, arith}
use Rattle.text.proofs.Pieces.{then_wrote, wrote_as}
use Rattle.text.proofs.put_number.Goals as goal

pub returns : goal.returns
returns g c =
    let e = c.as_bytes.ensures.value ∙ c.format.ensures.text in
    then_wrote (wrote_as c.put_bytes-next.ensures e (omega (arith, c.as_bytes.ensures, c.format.ensures))) c.put_bytes.ensures (omega (arith, c.requires))
