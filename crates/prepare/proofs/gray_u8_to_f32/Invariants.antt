-- `prepare::gray_u8_to_f32` meets its contract. The loop's invariant: the first i bytes stand in `out` as f32, and nothing else has changed. Assumes nothing.
use mathlib.Core.Path.{◌≡◌}
use Rattle.lists.specs.Lists.{put, tab}
use Rattle.prepare.proofs.Frames.{gray_at}
use Rattle.prepare.proofs.gray_u8_to_f32.Given as goal

abbrev pub invariant-loop-i : goal.invariant-loop-i
invariant-loop-i l = l.out ≡ put l.initial.out 0 (tab l.i (gray_at l.img))
