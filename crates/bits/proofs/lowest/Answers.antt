-- `bits::lowest` meets its contract. Assumes nothing.
use Rattle.bits.proofs.Scan.{zeros_below, bit_there, some_bit}
use Rattle.bits.proofs.lowest.Goals as goal

pub returns : goal.returns
returns c =
    let w = c.args.word in
    let h = some_bit 64 w c.requires c.ranges.word.fits in
    (h, zeros_below 64 w, bit_there 64 w h)
