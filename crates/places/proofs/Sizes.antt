-- There are as many marks as pixels; each is 0 or 1, and tells whether its pixel is marked. Assumes nothing.
use Prim.Native.Nat.{ℕ, ◌+◌, ◌*◌, ◌≤◌, ◌<◌}
use mathlib.Core.Path.{◌≡◌, refl, ap, ◌∙◌}
use mathlib.Core.Bool.{Bool, true, false, not}
use native.Mathlib.Nat.{mul_comm}
use lib.Dec.{eqb, lit≤}
use lib.ListN.{length, get_or}
use Rattle.lists.specs.Marked.{pick}
use Rattle.lists.proofs.Cases.{pick_both}
use Rattle.lists.proofs.Grow.{length_grid, get_d_grid, grid_all}
use Rattle.marks.specs.Marks.{on}
use Rattle.pose.specs.declared.Map.{Map}
use Rattle.places.specs.Point.{marked_at, mark_of, marks_of}

module _ (map : Map) (w h : ℕ) where
  pub length_marks : length (marks_of map w h) ≡ w * h
  unfolding marks_of
  length_marks = length_grid w h _ ∙ mul_comm h w

  pub mark_few : (i : ℕ) → i < w * h → get_or (marks_of map w h) i 0 ≤ 1
  unfolding marks_of mark_of
  mark_few = grid_all (λ b. b ≤ 1) w h (mark_of map w h) 0 (λ x y p q. pick_both (λ b. b ≤ 1) (marked_at map w h x y) 1 0 (lit≤ tt) (lit≤ tt))

not_zero : (b : Bool) → not (eqb (pick b 1 0) 0) ≡ b
unfolding pick
not_zero true = refl
not_zero false = refl

pub mark_on : (map : Map) (w h x y : ℕ) → x < w → y < h → on (marks_of map w h) (y * w + x) ≡ marked_at map w h x y
unfolding marks_of mark_of
mark_on map w h x y p q = ap (λ (b : ℕ). not (eqb b 0)) (get_d_grid w h x y (mark_of map w h) 0 p q) ∙ not_zero (marked_at map w h x y)
