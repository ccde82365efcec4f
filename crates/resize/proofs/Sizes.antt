-- A resized image has as many numbers as its sides make. Assumes nothing.
use Prim.Native.Nat.{ℕ, ◌*◌}
use mathlib.Core.Path.{◌≡◌, ◌∙◌}
use mathlib.Core.List.{List}
use native.Mathlib.Nat.{mul_comm}
use lib.ListN.{length}
use Rattle.lists.proofs.Grow.{length_grid}
use Rattle.resize.specs.Resize.{resize_of}

pub length_resize : (src : List ℕ) (w h tw th : ℕ) → length (resize_of src w h tw th) ≡ tw * th
unfolding resize_of
length_resize src w h tw th = length_grid tw th _ ∙ mul_comm th tw
