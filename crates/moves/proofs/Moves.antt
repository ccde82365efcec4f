-- THE STATEMENT: a move by whole pixels is exact. Assumes nothing.
use Prim.Native.Nat.{ℕ, ◌+◌, ◌-◌, ◌*◌, ◌^◌, ◌≤◌, ◌<◌}
use mathlib.Core.Path.{◌≡◌, refl, sym, ap, ap₂, ◌∙◌, subst}
use mathlib.Core.Bool.{Bool, true, false, not, true≢false}
use mathlib.Core.List.{List}
use native.Mathlib.Omega.{arith}
use lib.Dec.{eqb}
use lib.IntN.{ℤ, pos, nat_abs, ◌+ℤ◌}
use lib.ListN.{get_or}
use lib.Ieee.{Float, nan, binary32, of_int}
use Rattle.lists.specs.Marked.{pick}
use Rattle.lists.specs.Premises.{InRange}
use Rattle.lists.proofs.Cases.{pick_true}
use Rattle.lists.proofs.Grow.{get_d_grid}
use Rattle.floats.specs.F32.{f32}
use Rattle.floats.proofs.Zeros.{kept_equal}
use Rattle.marks.specs.Marks.{on}
use Rattle.pose.specs.Pose.{affine_from_theta_tx_ty}
use Rattle.pose.specs.declared.Map.{Map}
use Rattle.pose.specs.declared.Pose.{Pose}
use Rattle.places.specs.Point.{sx_of, sy_of, marked_at, mark_of, marks_of}
use Rattle.places.proofs.Point.{spot_in}
use Rattle.warp.specs.Warp.{sample_of, pixel_of, warp_of}
use Rattle.moves.specs.Moves.{WholeMove, AllFinite, SameNumber, whole_inside, MoveIsExact}
use Rattle.moves.proofs.Point.{size_sum, point_x, point_y, marked_is}
use Rattle.moves.proofs.Sample.{index_whole, sample_whole}

-- a mark that is on is that of a marked pixel
on_marked : (b : Bool) (v : ℕ) → v ≡ pick b 1 0 → not (eqb v 0) ≡ true → b ≡ true
unfolding pick
on_marked true v e o = refl
on_marked false v e o = absurd (true≢false (sym o ∙ ap (λ (z : ℕ). not (eqb z 0)) e))

-- x + n is X, so X is small
few : (x X : ℕ) (n : ℤ) → x < 4096 → nat_abs n ≤ 4096 → pos x +ℤ n ≡ pos X → X ≤ 2 ^ 24
few x X n lx ln e = omega (arith, subst (λ (z : ℤ). nat_abs z ≤ x + nat_abs n) e (size_sum x n))

module _ (w h : ℕ) (src : List Float) (p : Pose) (tx ty : ℤ) (r : InRange w h) (all : AllFinite src (w * h)) (m : WholeMove p tx ty) where
  abbrev map : Map
  map = affine_from_theta_tx_ty p

  module _ (x y : ℕ) (lx : x < w) (ly : y < h) where
    below_x : x < 4096
    below_x = omega (arith, r.w_most)

    below_y : y < 4096
    below_y = omega (arith, r.h_most)

    mark_is : get_or (marks_of map w h) (y * w + x) 0 ≡ pick (marked_at map w h x y) 1 0
    unfolding marks_of mark_of
    mark_is = get_d_grid w h x y (mark_of map w h) 0 lx ly

    marked : get_or (marks_of map w h) (y * w + x) 0 ≡ pick (whole_inside w h (pos x +ℤ tx) (pos y +ℤ ty)) 1 0
    marked = mark_is ∙ ap (λ (b : Bool). pick b 1 0) (marked_is p tx ty m x y below_x below_y w h r)

    module _ (X Y : ℕ) (o : on (marks_of map w h) (y * w + x) ≡ true) (ex : pos x +ℤ tx ≡ pos X) (ey : pos y +ℤ ty ≡ pos Y) where
      is_marked : marked_at map w h x y ≡ true
      is_marked = on_marked (marked_at map w h x y) (get_or (marks_of map w h) (y * w + x) 0) mark_is o

      at_x : sx_of map x y ≡ f32 X
      at_x = point_x p tx ty m x y below_x below_y ∙ ap (of_int binary32) ex

      at_y : sy_of map x y ≡ f32 Y
      at_y = point_y p tx ty m x y below_x below_y ∙ ap (of_int binary32) ey

      few_x : X ≤ 2 ^ 24
      few_x = few x X tx below_x m.tx_most ex

      few_y : Y ≤ 2 ^ 24
      few_y = few y Y ty below_y m.ty_most ey

      spot : Y * w + X + w + 1 < w * h
      spot = rw (at_x, at_y, index_whole X few_x, index_whole Y few_y) at (spot_in map w h x y r.w_most r.h_most is_marked)

      value : get_or (warp_of src map w h) (y * w + x) nan ≡ sample_of src w (f32 X) (f32 Y)
      unfolding warp_of pixel_of
      value = get_d_grid w h x y (pixel_of src map w h) nan lx ly ∙ pick_true _ _ _ is_marked ∙ ap₂ (sample_of src w) at_x at_y

      exact : SameNumber (get_or (warp_of src map w h) (y * w + x) nan) (get_or src (Y * w + X) nan)
      exact =
          let k = sample_whole src w (w * h) X Y all few_x few_y spot in
          rw value (record { equal = kept_equal _ _ (all.are_finite (Y * w + X) (omega (arith, spot))) k; but_for_zero = k })

-- however the statement writes the place
pub move_is_exact : MoveIsExact
move_is_exact w h src p tx ty r all m =
    record {
      marked = marked w h src p tx ty r all m;
      exact = λ x y X Y lx ly o ex ey. subst (λ (i : ℕ). SameNumber (get_or (warp_of src (affine_from_theta_tx_ty p) w h) (y * w + x) nan) (get_or src i nan)) (omega arith) (exact w h src p tx ty r all m x y lx ly X Y o ex ey);
    }
