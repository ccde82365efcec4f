-- A frame made ready by the rules, and its gradients, hold finite f32s: each number is a rounded one, and within ±2 ^ 22. So their moves are exact. Assumes nothing.
use Prim.Native.Nat.{ℕ, ◌*◌, ◌^◌, ◌<◌}
use mathlib.Core.List.{List}
use lib.Dec.{T, lit≤}
use lib.ListN.{get_or}
use lib.Ieee.{Float, nan, binary32, fits}
use lib.Ieee.Fits.{mul-fits}
use Rattle.lists.proofs.Grow.{grid_all}
use Rattle.floats.specs.Bound.{Bounded}
use Rattle.floats.proofs.Within.{within_finite}
use Rattle.gradients.specs.Gradients.{gradient_x, gradient_y}
use Rattle.gradients.proofs.Bounds.{gradient_x_within, gradient_y_within}
use Rattle.prepare.specs.Prepared.{prepared_of}
use Rattle.prepare.proofs.Fits.{prepared_fits}
use Rattle.prepare.proofs.Bounds.{prepared_bytes_within}
use Rattle.moves.specs.Moves.{AllFinite}
use Rattle.moves.specs.Frames.{FramesMoveExactly}
use Rattle.moves.proofs.Moves.{move_is_exact}

-- ---- rounded numbers

abbrev AllF32 : List Float → ℕ → Type 0
AllF32 xs n = (i : ℕ) → i < n → T (fits binary32 (get_or xs i nan))

gradient_x_f32 : (w h : ℕ) (src : List Float) → AllF32 (gradient_x w h src) (w * h)
unfolding gradient_x
gradient_x_f32 w h src = grid_all (λ v. T (fits binary32 v)) w h _ nan (λ x y p q. mul-fits binary32 _ _)

gradient_y_f32 : (w h : ℕ) (src : List Float) → AllF32 (gradient_y w h src) (w * h)
unfolding gradient_y
gradient_y_f32 w h src = grid_all (λ v. T (fits binary32 v)) w h _ nan (λ x y p q. mul-fits binary32 _ _)

-- ---- within bounds, so finite

all_finite : (xs : List Float) (n k : ℕ) → AllF32 xs n → Bounded xs n k → AllFinite xs n
all_finite xs n k f b = record { are_f32 = f; are_finite = λ i l. within_finite (get_or xs i nan) (2 ^ k) 1 (b i l) }

pub frames_move_exactly : FramesMoveExactly
frames_move_exactly bytes w h tw th ksize p tx ty r s odd sized below m =
    let img = prepared_of bytes w h tw th ksize in
    let n = tw * th in
    let b : Bounded img n 22 = prepared_bytes_within bytes w h tw th ksize r s odd sized below in
    let moved : (src : List Float) → AllF32 src n → Bounded src n 22 → _ = λ src f b. move_is_exact tw th src p tx ty s (all_finite src n 22 f b) m in
    record {
      input = moved img (prepared_fits bytes w h tw th ksize sized) b;
      gx = moved (gradient_x tw th img) (gradient_x_f32 tw th img) (gradient_x_within tw th 22 img (lit≤ tt) b);
      gy = moved (gradient_y tw th img) (gradient_y_f32 tw th img) (gradient_y_within tw th 22 img (lit≤ tt) b);
    }
