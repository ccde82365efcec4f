-- `gradients::gradient_y` meets its contract. The loop's invariant: the first y rows stand in the third image, and nothing else has changed. Assumes nothing.
use Prim.Native.Nat.{◌+◌, ◌*◌}
use mathlib.Core.Path.{◌≡◌}
use Rattle.lists.specs.Lists.{grid, put, image}
use Rattle.gradients.specs.Gradients.{before_of, after_of}
use Rattle.gradients.proofs.Rows.{half_of}
use Rattle.gradients.proofs.gradient_y.Given as goal

abbrev pub invariant-loop-y : goal.invariant-loop-y
invariant-loop-y l = l.part ≡ put l.initial.part (2 * l.n) (grid l.w l.y (λ x y. half_of (image l.n 0 l.initial.part) (after_of l.h y * l.w + x) (before_of y * l.w + x)))
