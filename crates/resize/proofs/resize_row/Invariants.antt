-- `resize::resize_row` puts pixel after pixel: the run at `at` grows by one a turn. Assumes nothing.
use mathlib.Core.Path.{◌≡◌}
use lib.ListN.{length}
use Rattle.lists.specs.Lists.{tab, put}
use Rattle.resize.specs.Resize.{tap_of, bilinear_of}
use Rattle.resize.proofs.resize_row.Given as goal

abbrev pub invariant-loop-x : goal.invariant-loop-x
invariant-loop-x l = l.out ≡ put l.initial.out l.at (tab l.x (λ k. bilinear_of l.src l.src_w (tap_of l.src_w (length l.taps) k) l.ty))
