-- The sides after resizing: from sides of 1 to 4,096 and any edge they are from 1 to 4,096 again.
-- A side is at most the longer one, and the edge is below it, so the scaled side is at most 4,096 before it is rounded. Assumes nothing.
use mathlib.Core.Path.{◌≡◌, ◌∙◌}
use mathlib.Core.Bool.{false}
use mathlib.Core.Logic.{◌⊎◌, inl, inr}
use Prim.Native.Nat.{ℕ, ◌*◌, ◌≤◌, ◌<◌, max}
use native.Mathlib.Omega.{arith}
use lib.Dec.{ltb, lit<, lit≤}
use lib.Ieee.{binary32, to_unsigned}
use borrow.Author.Tests.{lt-ltb, le-ltb}
use Rattle.lists.specs.Premises.{InRange}
use Rattle.lists.proofs.Cases.{pick_true, pick_false}
use Rattle.floats.specs.Bound.{UpTo}
use Rattle.floats.specs.F32.{◌⊘◌, f32}
use Rattle.floats.proofs.Exactly.{whole_is, div_value}
use Rattle.floats.proofs.Within.{rep_down}
use Rattle.floats.proofs.Patterns.{lt_or_le}
use Rattle.floats.proofs.Values.{upto_within}
use Rattle.numbers.specs.Numbers.{round_of}
use Rattle.settings.specs.Sides.{scaled_side_of, side_of, resized_of}
use Rattle.floats.proofs.Upward.{value_upto, round_upto, mul_upto}
use Rattle.floats.proofs.Casts.{cast_within}
use Rattle.numbers.proofs.Rounded.{round_of_within}

-- ---- one side

module _ (edge long s : ℕ) (L : long ≤ 4096) (E : edge ≤ long) (P : 1 ≤ long) (S : s ≤ long) where
  -- the edge over the longer side is at most 1
  ratio_upto : UpTo (f32 edge ⊘ f32 long) 1 1
  ratio_upto =
      rw (div_value binary32 (f32 edge) (f32 long) false false edge 1 long 1 (lit< tt) P (whole_is edge (omega arith)) (whole_is long (omega arith)))
      (round_upto false (edge * 1) (1 * long) 1 1 (omega arith) (rep_down 1 0 (lit≤ tt) (lit≤ tt)) (λ t. absurd t) (omega arith))

  pub scaled_upto : UpTo (scaled_side_of edge long s) 4096 1
  unfolding scaled_side_of
  scaled_upto =
      mul_upto (f32 s) (f32 edge ⊘ f32 long) s 1 1 1 4096 1 (lit< tt) (lit< tt) (rep_down 4096 0 (lit≤ tt) (lit≤ tt)) (omega arith)
      (value_upto (f32 s) s 1 (whole_is s (omega arith))) ratio_upto

  -- rounding keeps 4096
  pub rounded_most : to_unsigned 64 (round_of (scaled_side_of edge long s)) ≤ 4096
  rounded_most = cast_within 64 (round_of (scaled_side_of edge long s)) 4096 (round_of_within (scaled_side_of edge long s) 4096 (lit≤ tt) (upto_within (scaled_side_of edge long s) 4096 1 scaled_upto))

  pub side_range : (8 ≤ side_of edge long s) × (side_of edge long s ≤ 4096)
  unfolding side_of
  side_range = omega (arith, rounded_most)

-- ---- both sides, by the two tests

module _ (edge w h : ℕ) where
  -- edge 0 is none
  pub resized_off : edge ≤ 0 → resized_of edge w h ≡ record { w = w; h = h }
  unfolding resized_of
  resized_off e = pick_false (ltb 0 edge) _ _ (le-ltb 0 edge e)

  -- the longer side does not exceed the edge
  pub resized_kept : 0 < edge → max w h ≤ edge → resized_of edge w h ≡ record { w = w; h = h }
  unfolding resized_of
  resized_kept e l = pick_true (ltb 0 edge) _ _ (lt-ltb 0 edge e) ∙ pick_false (ltb edge (max w h)) _ _ (le-ltb edge (max w h) l)

  -- it does
  pub resized_scaled : 0 < edge → edge < max w h → resized_of edge w h ≡ record { w = side_of edge (max w h) w; h = side_of edge (max w h) h }
  unfolding resized_of
  resized_scaled e l = pick_true (ltb 0 edge) _ _ (lt-ltb 0 edge e) ∙ pick_true (ltb edge (max w h)) _ _ (lt-ltb edge (max w h) l)

-- ---- their range

pub resized_range : (edge w h : ℕ) → InRange w h → let s = resized_of edge w h in InRange s.w s.h
resized_range edge w h r = go (lt_or_le 0 edge) (lt_or_le edge (max w h))
  where
    one : (s : ℕ) → edge < max w h → s ≤ max w h → (8 ≤ side_of edge (max w h) s) × (side_of edge (max w h) s ≤ 4096)
    one s l k = side_range edge (max w h) s (omega arith) (omega arith) (omega arith) k

    go : (0 < edge) ⊎ (edge ≤ 0) → (edge < max w h) ⊎ (max w h ≤ edge) → let s = resized_of edge w h in InRange s.w s.h
    go (inr e) l = rw (resized_off edge w h e) r
    go (inl e) (inr l) = rw (resized_kept edge w h e l) r
    go (inl e) (inl l) =
        let x = one w l (omega arith) in
        let y = one h l (omega arith) in
        rw (resized_scaled edge w h e l) (record { w_least = omega arith; w_most = x.1; h_least = omega arith; h_most = y.1 })
