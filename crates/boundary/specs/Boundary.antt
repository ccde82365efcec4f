-- What crosses the boundary to C and Rust: an answer as a number, its pose, its matrix and its pins in lent slices, the settings and the lengths as numbers.
-- Definitions only.
use Rattle.std.specs.Prelude.{ℕ, ◌+◌, ◌*◌, List, [], ◌∷◌, ltb, eqb, ℤ, length, Float, Ok, Err, None, Some}
use Rattle.lists.specs.Lists.{put}
use Rattle.lists.specs.Marked.{pick}
use Rattle.floats.specs.F32.{0f}
use Rattle.settings.specs.Sides.{resized_of}
use Rattle.settings.specs.declared.EccConfig.{EccConfig}
use Rattle.inverse.specs.declared.Matrix3.{Matrix3}
use Rattle.pose.specs.Pose.{Answer, told_of, number_of}
use Rattle.refusals.specs.declared.Refusal.TheVariants.{Handed}
use Rattle.pose.specs.declared.Outcome.{Outcome}
use Rattle.driver.specs.declared.Pins.{Pins}

-- the settings; edge 0 is none
unfoldable pub config_of : Float → ℕ → ℕ → ℕ → EccConfig
config_of eps most filter edge = record { eps = eps; max_iter = most; gauss_filt_size = filter; resize_long_edge = pick (eqb edge 0) None (Some edge) }

-- n, the number of pixels after resizing; 0 where a side is 0 or above 4,096
unfoldable pub pixel_count_of : ℕ → ℕ → ℕ → ℕ
pixel_count_of w h edge =
    let s = resized_of edge w h in
    pick (ltb 4096 w) 0 (pick (ltb 4096 h) 0 (pick (eqb w 0) 0 (pick (eqb h 0) 0 (s.w * s.h))))

-- a lent slice with l at its front; unchanged where it is shorter than l
unfoldable pub fronted : {A : Type 0} → List A → List A → List A
fronted l xs = pick (ltb (length xs) (length l)) xs (put xs 0 l)

-- how a call ended: its number + 256 * its passes
unfoldable pub code_of : Outcome → ℕ
code_of o = number_of o.answer + 256 * o.passes

-- theta, tx, ty, rho; zeros for a refusal
unfoldable pub pose_of : Answer → List Float
pose_of a = let t = told_of a in t.theta ∷ t.tx ∷ t.ty ∷ t.rho ∷ []

-- an answer handed in: 0 is a pose, whose rho plays no part; any other number is a refusal
unfoldable pub handed_of : ℕ → Float → Float → Float → Answer
handed_of number theta tx ty = pick (eqb number 0) (Ok (record { theta = theta; tx = tx; ty = ty; rho = 0f })) (Err (Handed number))

-- dx, dy, turn
unfoldable pub three_of : Pins → List ℤ
three_of p = p.dx ∷ p.dy ∷ p.turn ∷ []
