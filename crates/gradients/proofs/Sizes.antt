-- A gradient has as many numbers as its sides make. Assumes nothing.
use Prim.Native.Nat.{ℕ, ◌*◌}
use mathlib.Core.Path.{◌≡◌, ◌∙◌}
use mathlib.Core.List.{List}
use native.Mathlib.Nat.{mul_comm}
use lib.ListN.{length}
use lib.Ieee.{Float}
use Rattle.lists.proofs.Grow.{length_grid}
use Rattle.gradients.specs.Gradients.{gradient_x, gradient_y}

pub length_gradient_x : (w h : ℕ) (src : List Float) → length (gradient_x w h src) ≡ w * h
unfolding gradient_x
length_gradient_x w h src = length_grid w h _ ∙ mul_comm h w

pub length_gradient_y : (w h : ℕ) (src : List Float) → length (gradient_y w h src) ≡ w * h
unfolding gradient_y
length_gradient_y w h src = length_grid w h _ ∙ mul_comm h w
