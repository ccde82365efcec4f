-- A blur keeps numbers finite: within 2 ^ k becomes within 2 ^ (k + 5) in each of its two passes. Assumes nothing.
use mathlib.Core.Path.{◌≡◌, subst}
use mathlib.Core.List.{List}
use Prim.Native.Nat.{ℕ, ◌+◌, ◌*◌, ◌%◌, ◌^◌, ◌≤◌, ◌<◌}
use native.Mathlib.Nat.{add_assoc, mul-le-mul_right}
use native.Mathlib.Omega.{arith}
use lib.Dec.{leb, lit<}
use lib.Pow.{pow-add, pow_mono}
use lib.ListN.{get_or}
use lib.Ieee.{Float, nan}
use Rattle.lists.proofs.Cases.{pick_both}
use Rattle.floats.specs.Bound.{Within, Bounded}
use Rattle.floats.specs.F32.{◌⊗◌}
use Rattle.floats.specs.Sums.{sum_to}
use Rattle.floats.proofs.Within.{within_more, scaled_within}
use Rattle.blur.specs.declared.Along.{Along}
use Rattle.blur.specs.declared.Along.TheVariants.{Rows, Columns}
use Rattle.kernel.specs.Kernel.{kernel_of}
use Rattle.blur.specs.Blur.{rows_of, columns_of, blur_of}
use Rattle.blur.specs.Pass.{spot_of, taps_of, sweep_of}
use Rattle.lists.proofs.Grow.{grid_all}
use Rattle.floats.proofs.Sums.{to_within}
use Rattle.kernel.proofs.Kernels.{weight_within}
use Rattle.blur.proofs.Taps.{spot_in}
use Rattle.blur.proofs.Passes.{rows_are, columns_are}

-- fewer than 32 times 2 ^ k
thirty_two : (n k : ℕ) → n ≤ 31 → n * 2 ^ k * 1 ≤ 2 ^ (k + 5) * 1
thirty_two n k few = rw (pow-add 2 k 5) (omega (arith, mul-le-mul_right (2 ^ k) few))

module _ (ksize : ℕ) (few : ksize ≤ 31) (odd : ksize % 2 ≡ 1) where
  module _ (w h k : ℕ) (src : List Float) (b : Bounded src (w * h) k) where
    pixel_within : k ≤ 98 → (along : Along) (x y : ℕ) → x < w → y < h → Within (taps_of along (kernel_of ksize) ksize w h src ksize x y) (2 ^ (k + 5)) 1
    unfolding taps_of
    pixel_within K along x y p q =
        let spot : ℕ → ℕ = λ j. spot_of along ksize w h x y j in
        let f : ℕ → Float = λ j. get_or src (spot j) nan ⊗ get_or (kernel_of ksize) j nan in
        within_more (sum_to f ksize) (ksize * 2 ^ k) 1 (2 ^ (k + 5)) 1 (lit< tt)
        (to_within k (omega arith) f ksize (omega arith) (λ j l. scaled_within k (omega arith) _ _ (b (spot j) (spot_in along ksize w h x y j p q)) (weight_within ksize few odd j l)))
        (thirty_two ksize k few)

    pass_within : k ≤ 98 → (along : Along) → Bounded (sweep_of along (kernel_of ksize) ksize w h src) (w * h) (k + 5)
    unfolding sweep_of
    pass_within K along = grid_all (λ z. Within z (2 ^ (k + 5)) 1) w h (taps_of along (kernel_of ksize) ksize w h src ksize) nan (pixel_within K along)

    pub rows_within : k ≤ 98 → Bounded (rows_of ksize w h src) (w * h) (k + 5)
    rows_within K = subst (λ (l : List Float). Bounded l (w * h) (k + 5)) (rows_are ksize w h src) (pass_within K Rows)

    pub columns_within : k ≤ 98 → Bounded (columns_of ksize w h src) (w * h) (k + 5)
    columns_within K = subst (λ (l : List Float). Bounded l (w * h) (k + 5)) (columns_are ksize w h src) (pass_within K Columns)

  -- THE BOUND: a blur of numbers within 2 ^ k has numbers within 2 ^ (k + 10)
  pub both_within : (w h k : ℕ) (src : List Float) → Bounded src (w * h) k → k ≤ 93 → Bounded (columns_of ksize w h (rows_of ksize w h src)) (w * h) (k + 10)
  both_within w h k src b K =
      let rows : Bounded (rows_of ksize w h src) (w * h) (k + 5) = rows_within w h k src b (omega arith) in
      rw (add_assoc k 5 5) at (columns_within w h (k + 5) (rows_of ksize w h src) rows (omega arith))

  -- the same of the blur itself, which leaves an image as it is at size 1
  pub blur_within : (w h k : ℕ) (src : List Float) → Bounded src (w * h) k → k ≤ 93 → Bounded (blur_of ksize w h src) (w * h) (k + 10)
  unfolding blur_of
  blur_within w h k src b K =
      let more : 2 ^ k ≤ 2 ^ (k + 10) = pow_mono (omega arith) in
      let as_it_is : Bounded src (w * h) (k + 10) = λ i l. within_more (get_or src i nan) (2 ^ k) 1 (2 ^ (k + 10)) 1 (lit< tt) (b i l) (omega arith) in
      pick_both (λ l. Bounded l (w * h) (k + 10)) (leb ksize 1) src (columns_of ksize w h (rows_of ksize w h src)) as_it_is (both_within w h k src b K)
