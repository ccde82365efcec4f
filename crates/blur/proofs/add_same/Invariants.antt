-- `blur::add_same` meets its contract. The loop's invariant: the first i numbers are added to. Assumes nothing.
use mathlib.Core.Path.{◌≡◌}
use Rattle.blur.specs.Pass.{added_of}
use Rattle.blur.proofs.add_same.Given as goal

abbrev pub invariant-loop-i : goal.invariant-loop-i
invariant-loop-i l = l.part ≡ added_of l.initial.part l.dst l.i (λ _. l.src) l.weight
