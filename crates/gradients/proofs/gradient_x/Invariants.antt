-- `gradients::gradient_x` meets its contract. The loop's invariant: the first y rows stand in the second image, and nothing else has changed. Assumes nothing.
use Prim.Native.Nat.{◌+◌, ◌*◌}
use mathlib.Core.Path.{◌≡◌}
use Rattle.lists.specs.Lists.{grid, put, image}
use Rattle.gradients.specs.Gradients.{before_of, after_of}
use Rattle.gradients.proofs.Rows.{half_of}
use Rattle.gradients.proofs.gradient_x.Given as goal

abbrev pub invariant-loop-y : goal.invariant-loop-y
invariant-loop-y l = l.part ≡ put l.initial.part l.n (grid l.w l.y (λ x y. half_of (image l.n 0 l.initial.part) (y * l.w + after_of l.w x) (y * l.w + before_of x)))
