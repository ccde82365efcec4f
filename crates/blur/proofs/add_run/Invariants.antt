-- `blur::add_run` meets its contract. The loop's invariant: the first i numbers are added to. Assumes nothing.
use mathlib.Core.Path.{◌≡◌}
use Prim.Native.Nat.{◌+◌}
use Rattle.blur.specs.Pass.{added_of}
use Rattle.blur.proofs.add_run.Given as goal

abbrev pub invariant-loop-i : goal.invariant-loop-i
invariant-loop-i l = l.part ≡ added_of l.initial.part l.dst l.i (λ k. l.src + k) l.weight
