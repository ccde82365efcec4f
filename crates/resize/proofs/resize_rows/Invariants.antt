-- `resize::resize_rows` puts row after row at the front of `out`. Assumes nothing.
use mathlib.Core.Path.{◌≡◌}
use Rattle.lists.specs.Lists.{grid, put}
use Rattle.resize.specs.Resize.{tap_of, bilinear_of}
use Rattle.resize.proofs.resize_rows.Given as goal

abbrev pub invariant-loop-y : goal.invariant-loop-y
invariant-loop-y l = l.out ≡ put l.initial.out 0 (grid l.dst_w l.y (λ x z. bilinear_of l.src l.src_w (tap_of l.src_w l.dst_w x) (tap_of l.src_h l.dst_h z)))
