-- `files::fill` reads until no read follows. Each turn brings bytes or the end. Assumes nothing.
use Rattle.std.proofs.Common.{◌≡◌, ◌≤◌, ◌-◌, length}
use Rattle.files.specs.Fill.{Gathered, held_of}
use Rattle.files.proofs.fill.Given as goal

abbrev pub invariant-loop-count : goal.invariant-loop-count
invariant-loop-count g l = record {
  gathered : Gathered (length l.buf) (held_of (length l.buf) l.count);
  in_range : l.count ≤ length l.buf;
  same_size : length l.buf ≡ length l.fn.buf;
}

abbrev pub decreases-loop-count : goal.decreases-loop-count
decreases-loop-count g l = length l.fn.buf - l.count
