-- A warped image has as many numbers as its sides make. Assumes nothing.
use Prim.Native.Nat.{ℕ, ◌*◌}
use mathlib.Core.Path.{◌≡◌, ◌∙◌}
use mathlib.Core.List.{List}
use native.Mathlib.Nat.{mul_comm}
use lib.ListN.{length}
use lib.Ieee.{Float}
use Rattle.lists.proofs.Grow.{length_grid}
use Rattle.pose.specs.declared.Map.{Map}
use Rattle.warp.specs.Warp.{warp_of}

pub length_warp : (src : List Float) (map : Map) (w h : ℕ) → length (warp_of src map w h) ≡ w * h
unfolding warp_of
length_warp src map w h = length_grid w h _ ∙ mul_comm h w
