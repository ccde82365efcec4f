-- `pass::solve_work` meets its contract: the images 0, 1, 3, 4 and 5 of the part from the image 6 on are 6, 7, 9, 10 and 11 of the work. Assumes nothing.
use Prim.Native.Nat.{◌*◌}
use Rattle.bits.specs.Words.{unpacked_of}
use Rattle.pass.proofs.Parts.{steep_back, solve_back}
use Rattle.pass.proofs.solve_work.Goals as goal

pub returns : goal.returns
returns c =
    let a = c.args in
    let q = c.solve.ensures in
    let f = c.requires.1.images in record { work_after = steep_back (unpacked_of a.marks.now (a.w * a.h)) a.w a.h a.at a.s a.rho a.work.now f _ c.solve.auto.part q.part_after; result_value = solve_back (unpacked_of a.marks.now (a.w * a.h)) a.w a.h a.at a.s a.rho a.work.now f _ q.value }
