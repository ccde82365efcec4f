-- The size of the gradients: no number of them is larger than the largest of the image. Assumes nothing.
use Prim.Native.Nat.{ℕ, ◌+◌, ◌*◌, ◌^◌, ◌≤◌, ◌<◌}
use mathlib.Core.Path.{◌≡◌}
use mathlib.Core.List.{List}
use native.Mathlib.Omega.{arith}
use lib.Dec.{lit<, lit≤}
use lib.ListN.{get_or}
use lib.Ieee.{Float, nan, binary32, of_bits}
use Rattle.lists.proofs.Fill.{row_in}
use Rattle.floats.specs.Bound.{Within}
use Rattle.floats.specs.F32.{◌⊖◌, ◌⊗◌, half}
use Rattle.floats.proofs.Within.{sub_within, mul_within, rep_up}
use Rattle.gradients.specs.Gradients.{before_of, after_of, gradient_x, gradient_y}
use Rattle.lists.proofs.Grow.{grid_all}

half_is : Within half 1 2
unfolding of_bits
half_is = lit≤ tt

-- half of a difference
half_within : (k : ℕ) → k ≤ 100 → (a b : Float) → Within a (2 ^ k) 1 → Within b (2 ^ k) 1 → Within (half ⊗ (a ⊖ b)) (2 ^ k) 1
half_within k K a b p q =
    let twice : 2 * 2 ^ k ≡ 2 ^ k + 2 ^ k = omega arith in
    let once : 1 * 2 ^ k ≡ 2 ^ k = omega arith in
    mul_within binary32 half (a ⊖ b) 1 2 (2 ^ k + 2 ^ k) 1 (2 ^ k) 1 (lit< tt) (lit< tt) (rw once at (rep_up 1 k (lit≤ tt) (omega arith))) (omega arith) half_is
    (sub_within binary32 a b (2 ^ k) (2 ^ k) 1 (rw twice at (rep_up 2 k (lit≤ tt) (omega arith))) p q)

module _ (w h k : ℕ) (src : List Float) (small : k ≤ 100) (all : (i : ℕ) → i < w * h → Within (get_or src i nan) (2 ^ k) 1) where
  pub gradient_x_within : (i : ℕ) → i < w * h → Within (get_or (gradient_x w h src) i nan) (2 ^ k) 1
  unfolding gradient_x
  gradient_x_within = grid_all (λ v. Within v (2 ^ k) 1) w h _ nan λ x y p q.
      let r = row_in w y h q in
      half_within k small _ _ (all (y * w + after_of w x) (omega arith)) (all (y * w + before_of x) (omega arith))

  pub gradient_y_within : (i : ℕ) → i < w * h → Within (get_or (gradient_y w h src) i nan) (2 ^ k) 1
  unfolding gradient_y
  gradient_y_within = grid_all (λ v. Within v (2 ^ k) 1) w h _ nan λ x y p q.
      let d = row_in w (after_of h y) h (omega arith) in
      let u = row_in w (before_of y) h (omega arith) in
      half_within k small _ _ (all (after_of h y * w + x) (omega arith)) (all (before_of y * w + x) (omega arith))
