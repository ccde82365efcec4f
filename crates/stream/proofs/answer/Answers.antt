-- `stream::answer` meets its contract: the aligner answers the frame, and its line has the next position. Assumes nothing.
use Prim.Native.Nat.{◌+◌, ◌-◌}
use mathlib.Core.Path.{◌≡◌}
use native.Mathlib.Omega.{arith}
use Rattle.stream.specs.Stream.{act_of}
use Rattle.stream.specs.Memory.{at_frame, store_by, work_by, marks_by}
use Rattle.stream.proofs.answer.Goals as goal

pub overflow_add-result : goal.overflow_add-result
overflow_add-result c = omega (arith, c.requires.0)

pub returns : goal.returns
unfolding act_of at_frame store_by work_by marks_by
returns c =
    let e = c.estimate-reply in
    let n = c.args.size in
    let part : 10 + n - 10 ≡ n = omega arith in record { value = rw (c.line_of.ensures, rw part at e.ensures.value); store_after = rw part at e.ensures.store_after; work_after = (rw part at e.ensures.leaves.0, rw part at e.ensures.leaves.1) }
