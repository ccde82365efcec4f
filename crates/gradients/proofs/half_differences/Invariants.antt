-- `gradients::half_differences` meets its contract. The loop's invariant: the first k numbers of the run stand, and nothing else has changed. Assumes nothing.
use mathlib.Core.Path.{◌≡◌}
use Rattle.lists.specs.Lists.{put}
use Rattle.gradients.proofs.Rows.{run_of}
use Rattle.gradients.proofs.half_differences.Given as goal

abbrev pub invariant-loop-k : goal.invariant-loop-k
invariant-loop-k l = l.part ≡ put l.initial.part l.to (run_of l.initial.part l.next l.prev l.k)
