-- `pass::centre_work` meets its contract: the images 0, 3, 4 and 5 of the part from the image 5 on are 5, 8, 9 and 10 of the work. Assumes nothing.
use Rattle.bits.specs.Words.{unpacked_of}
use Rattle.pass.proofs.Parts.{centre_back}
use Rattle.pass.proofs.centre_work.Goals as goal

pub returns : goal.returns
returns c =
    let a = c.args in
    let o = c.centered_stats_in_place in
    centre_back (unpacked_of a.marks.now a.n) a.n a.work.now c.requires.2.images _ _ o.auto.part o.ensures
