-- `aligner::keep` meets its contract. The loop's invariant: the first i bytes of the frame stand at the store's front. Assumes nothing.
use mathlib.Core.Path.{◌≡◌}
use lib.ListN.{length, take}
use Rattle.lists.specs.Lists.{put}
use Rattle.aligner.proofs.keep.Given as goal

abbrev pub invariant-loop-i : goal.invariant-loop-i
invariant-loop-i l = (length l.store ≡ length l.initial.store) × (l.store ≡ put l.initial.store 0 (take l.i l.frame))
