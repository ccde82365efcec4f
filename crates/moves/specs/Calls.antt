-- The same of any call of warp_three_inverse_map that its contract admits. Definitions only.
use Rattle.std.specs.Prelude.{ℕ, ◌+◌, ◌*◌, ◌<◌, ◌≡◌, List, ℤ, Float}
use Rattle.lists.specs.Lists.{image}
use Rattle.bits.specs.Words.{unpacked_of}
use Rattle.pose.specs.Pose.{affine_from_theta_tx_ty}
use Rattle.pose.specs.declared.Map.{Map}
use Rattle.pose.specs.declared.Pose.{Pose}
use Rattle.warp.proofs.warp_three_inverse_map.Reads as warp
use Rattle.warp.proofs.warp_three_inverse_map.Kinds as warp_kinds
use Rattle.demands.specs.Calls.{Admitted}
use Rattle.moves.specs.Moves.{WholeMove, AllFinite, MovedBy}

-- a call, with a result that the post-condition admits; the names are its parameters': what was handed in, and what part and marks hold at exit,
-- the marks in words
abbrev pub Warp : Type 0
Warp = Admitted warp_kinds.ps warp_kinds.r warp.Post

module _ (c : Warp) where
  abbrev pub part : List Float
  part = c.handed.0.now

  abbrev pub map : Map
  map = c.handed.1.1.0

  abbrev pub w : ℕ
  w = c.handed.1.1.1.0

  abbrev pub h : ℕ
  h = c.handed.1.1.1.1.0

  abbrev pub part' : List Float
  part' = c.left.0.now

  abbrev pub marks' : List ℕ
  marks' = c.left.1.0.now

  -- what the contract asks of the call
  abbrev pub Asked : Type 0
  Asked = warp.Pre c.κs c.handed

-- THE STATEMENT of calls: each of the images 3 to 5 is the image 0 to 2 moved, and the words stand for the moved marks
abbrev pub WarpMovesExactly : Type 0
WarpMovesExactly =
    (c : Warp) (p : Pose) (tx ty : ℤ) (k : ℕ) → Asked c → map c ≡ affine_from_theta_tx_ty p → WholeMove p tx ty → k < 3 → let n = w c * h c in AllFinite (image n k (part c)) n
    → MovedBy tx ty (w c) (h c) (image n k (part c)) (image n (3 + k) (part' c)) (unpacked_of (marks' c) n)
