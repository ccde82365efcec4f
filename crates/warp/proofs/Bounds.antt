-- How large a warped pixel is: each weight is within 1, so a pixel of numbers within 2 ^ k is within 2 ^ (k + 4). Assumes nothing.
use mathlib.Core.Path.{◌≡◌, subst}
use mathlib.Core.Bool.{true, false}
use mathlib.Core.List.{List}
use Prim.Native.Nat.{ℕ, ◌+◌, ◌*◌, ◌^◌, ◌≤◌}
use native.Mathlib.Nat.{mul_comm, mul-le-mul, add-mul}
use native.Mathlib.Omega.{arith}
use lib.Dec.{lit<, lit≤}
use lib.Pow.{pow-add}
use lib.ListN.{get_or}
use lib.Ieee.{Float, nan, binary32, of_bits}
use Rattle.lists.proofs.Cases.{pick_where}
use Rattle.lists.proofs.Grow.{grid_all}
use Rattle.floats.specs.Bound.{Within, Bounded, Rep}
use Rattle.floats.specs.F32.{◌⊕◌, ◌⊖◌, ◌⊗◌, f32, 0f, 1f}
use Rattle.floats.proofs.Within.{within_more, add_within, sub_within, mul_within, rep_down, rep_up}
use Rattle.floats.proofs.Exactly.{value_within, one_value}
use Rattle.numbers.proofs.Small.{rest_within}
use Rattle.pose.specs.declared.Map.{Map}
use Rattle.places.specs.Point.{sx_of, sy_of, marked_at, index_of}
use Rattle.places.proofs.Point.{fits_x, fits_y, marked_x, marked_y, spot_in}
use Rattle.blends.specs.Blend.{four_of}
use Rattle.warp.specs.Warp.{sample_of, pixel_of, warp_of}

-- ---- four pixels within 2 ^ k, and two weights within 1
module _ (k : ℕ) (K : k ≤ 99) where
  -- a number times a weight of size at most c
  times : (x v : Float) (c : ℕ) → c ≤ 4 → Within x (2 ^ k) 1 → Within v c 1 → Within (x ⊗ v) (c * 2 ^ k) 1
  times x v c C p q = mul_within binary32 x v (2 ^ k) 1 c 1 (c * 2 ^ k) 1 (lit< tt) (lit< tt) (rep_up c k (omega arith) (omega arith)) (omega (arith, mul_comm c (2 ^ k))) p q

  plus : (x y : Float) (b c : ℕ) → b + c ≤ 9 → Within x (b * 2 ^ k) 1 → Within y (c * 2 ^ k) 1 → Within (x ⊕ y) ((b + c) * 2 ^ k) 1
  plus x y b c C p q =
      let e : (b + c) * 2 ^ k ≡ b * 2 ^ k + c * 2 ^ k = add-mul b c (2 ^ k) in
      rw e (add_within binary32 x y (b * 2 ^ k) (c * 2 ^ k) 1 (subst (λ (z : ℕ). Rep binary32 z 1) e (rep_up (b + c) k (omega arith) (omega arith))) p q)

  -- a weight of a pixel
  both : (u v : Float) (b c : ℕ) → b ≤ 2 → c ≤ 2 → Within u b 1 → Within v c 1 → Within (u ⊗ v) (b * c) 1
  both u v b c B C p q = mul_within binary32 u v b 1 c 1 (b * c) 1 (lit< tt) (lit< tt) (rep_down (b * c) 0 (omega (arith, mul-le-mul B C)) (lit≤ tt)) (omega arith) p q

  four_within : (p q r s a b : Float) → Within a 1 1 → Within b 1 1 → Within p (2 ^ k) 1 → Within q (2 ^ k) 1 → Within r (2 ^ k) 1 → Within s (2 ^ k) 1 → Within (four_of p q r s a b) (2 ^ (k + 4)) 1
  unfolding four_of
  four_within p q r s a b ha hb hp hq hr hs =
      let one : Within 1f 1 1 = value_within 1f false 1 1 one_value in
      let two : Rep binary32 2 1 = rep_down 2 0 (lit≤ tt) (lit≤ tt) in
      let a' = 1f ⊖ a in
      let b' = 1f ⊖ b in
      let na : Within a' 2 1 = sub_within binary32 1f a 1 1 1 two one ha in
      let nb : Within b' 2 1 = sub_within binary32 1f b 1 1 1 two one hb in
      let P = p ⊗ (a' ⊗ b') in
      let Q = q ⊗ (a ⊗ b') in
      let R = r ⊗ (a' ⊗ b) in
      let S = s ⊗ (a ⊗ b) in
      let w = times p (a' ⊗ b') 4 (lit≤ tt) hp (both a' b' 2 2 (lit≤ tt) (lit≤ tt) na nb) in
      let x = times q (a ⊗ b') 2 (lit≤ tt) hq (both a b' 1 2 (lit≤ tt) (lit≤ tt) ha nb) in
      let y = times r (a' ⊗ b) 2 (lit≤ tt) hr (both a' b 2 1 (lit≤ tt) (lit≤ tt) na hb) in
      let z = times s (a ⊗ b) 1 (lit≤ tt) hs (both a b 1 1 (lit≤ tt) (lit≤ tt) ha hb) in
      within_more (P ⊕ Q ⊕ R ⊕ S) (9 * 2 ^ k) 1 (2 ^ (k + 4)) 1 (lit< tt)
      (plus (P ⊕ Q ⊕ R) S 8 1 (lit≤ tt) (plus (P ⊕ Q) R 6 2 (lit≤ tt) (plus P Q 4 2 (lit≤ tt) w x) y) z) (omega (arith, pow-add 2 k 4))

-- ---- a warped image
module _ (src : List Float) (map : Map) (w h k : ℕ) (K : k ≤ 99) (W : w ≤ 4096) (H : h ≤ 4096) (all : Bounded src (w * h) k) where
  -- its four pixels lie in the source
  pub sample_within : (x y : ℕ) → marked_at map w h x y ≡ true → Within (sample_of src w (sx_of map x y) (sy_of map x y)) (2 ^ (k + 4)) 1
  unfolding sample_of index_of
  sample_within x y m =
      let s = spot_in map w h x y W H m in
      let x0 = index_of (sx_of map x y) in
      let y0 = index_of (sy_of map x y) in
      four_within k K (get_or src (y0 * w + x0) nan) (get_or src (y0 * w + (x0 + 1)) nan) (get_or src ((y0 + 1) * w + x0) nan) (get_or src ((y0 + 1) * w + (x0 + 1)) nan) (sx_of map x y ⊖ f32 x0) (sy_of map x y ⊖ f32 y0)
      (rest_within (sx_of map x y) (fits_x map w h x y) (marked_x map w h x y W H m).small) (rest_within (sy_of map x y) (fits_y map w h x y) (marked_y map w h x y W H m).small)
      (all (y0 * w + x0) (omega arith)) (all (y0 * w + (x0 + 1)) (omega arith)) (all ((y0 + 1) * w + x0) (omega arith)) (all ((y0 + 1) * w + (x0 + 1)) (omega arith))

  unmarked_within : Within 0f (2 ^ (k + 4)) 1
  unfolding of_bits
  unmarked_within = omega arith

  -- THE LAW
  pub warp_within : Bounded (warp_of src map w h) (w * h) (k + 4)
  unfolding warp_of pixel_of
  warp_within = grid_all (λ v. Within v (2 ^ (k + 4)) 1) w h _ nan (λ x y p q. pick_where (λ v. Within v (2 ^ (k + 4)) 1) _ _ _ (sample_within x y) unmarked_within)
