-- What the caller keeps between two frames: the aligner's record as three numbers, and the previous frame. Definitions only.
use Rattle.std.specs.Prelude.{ℕ, ◌*◌, List, [], ◌∷◌, ltb, eqb, length, get_or, Some}
use Rattle.lists.specs.Marked.{pick}
use Rattle.settings.specs.declared.EccConfig.{EccConfig}
use Rattle.aligner.specs.Aligner.{fresh_of, entry_of}
use Rattle.aligner.specs.declared.EccAligner.{EccAligner}
use Rattle.boundary.specs.Boundary.{fronted}

-- the store of a frame: w * h bytes; 0 where a side is above 4,096
unfoldable pub store_length_of : ℕ → ℕ → ℕ
store_length_of w h = pick (ltb 4096 w) 0 (pick (ltb 4096 h) 0 (w * h))

-- the aligner's record by its three numbers: whether a frame is held (0 for no, any other for yes), and its sides. In fewer than three nothing is remembered
unfoldable pub remembered_of : EccConfig → List ℕ → EccAligner
remembered_of cfg s =
    pick (ltb (length s) 3) (fresh_of cfg) (pick (eqb (get_or s 0 0) 0) (fresh_of cfg) (record { cfg = cfg; prev = Some (record { w = get_or s 1 0; h = get_or s 2 0 }) }))

-- the three numbers after a frame of t bytes, with a store of k: where the first checks refuse, as they were; else 1 and the frame's sides
unfoldable pub state_after : ℕ → ℕ → ℕ → ℕ → List ℕ → List ℕ
state_after t w h k s = pick (eqb (entry_of t w h k) 0) (fronted (1 ∷ w ∷ h ∷ []) s) s
