-- `pass::warp_work` meets its contract: the images 0 to 5 of the part from the image 2 on are 2 to 7 of the work. Assumes nothing.
use Rattle.pass.proofs.Parts.{warp_back}
use Rattle.pass.proofs.warp_work.Goals as goal

pub returns : goal.returns
returns c =
    let a = c.args in
    let q = c.warp_three_inverse_map.ensures in
    record { work_after = warp_back a.map a.w a.h a.work.now c.requires.1.images _ q.images; marks_after = q.marked; count_value = (q.counted, q.rows) }
