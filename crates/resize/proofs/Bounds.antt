-- How large a resized pixel can be: every weight is within 1, so a blend of numbers within 2 ^ k is within 2 ^ (k + 2), and a pixel, which is a
-- blend of two blends, is within 2 ^ (k + 4) where every source number is below 2 ^ k. Bytes are k = 8. Assumes nothing.
use mathlib.Core.Path.{◌≡◌}
use mathlib.Core.Bool.{true, false, true≢false}
use mathlib.Core.List.{List}
use Prim.Native.Nat.{ℕ, ◌+◌, ◌-◌, ◌*◌, ◌/◌, ◌%◌, ◌^◌, ◌≤◌, ◌<◌}
use native.Mathlib.Nat.{mul_comm, mod-lt, min-eq_left, div-lt_iff_lt-mul}
use native.Mathlib.Omega.{arith}
use lib.Dec.{T, lit<, lit≤}
use lib.Pow.{pow-add}
use lib.ListN.{get_or}
use lib.Ieee.{Float, nan, inf, fin, binary32, up, down, fits, to_unsigned}
use lib.Ieee.Fits.{down_pos}
use Rattle.lists.proofs.Grow.{grid_tab, get_d_tab}
use Rattle.floats.specs.Bound.{Within}
use Rattle.floats.specs.F32.{◌⊕◌, ◌⊖◌, ◌⊗◌, f32, 1f}
use Rattle.floats.proofs.Within.{Signed, within_more, add_within, sub_within, mul_within, rep_down, rep_up, rep_pow}
use Rattle.floats.proofs.Exactly.{whole_is, value_over, value_within, one_value, whole_within}
use Rattle.floats.proofs.Fraction.{fraction_within}
use Rattle.resize.specs.Resize.{place_of, tap_of, lerp_of, byte_of, bilinear_of, resize_of}
use Rattle.numbers.proofs.Cast.{cast_negative}
use Rattle.resize.proofs.Inside.{Placed, before_first, inside, placed, place_fits, under, first_cast}

-- ---- weights

-- before the first pixel the weight is the place itself
weight_before : (s : Float) → Signed true s → Within s 1 2 → Within (s ⊖ f32 (to_unsigned 64 s)) 1 1
weight_before s t w =
    rw (cast_negative s t)
    (within_more (s ⊖ f32 0) 1 2 1 1 (lit< tt)
    (sub_within binary32 s (f32 0) 1 0 2 (rep_down 1 1 (lit≤ tt) (lit≤ tt)) w (value_within (f32 0) false 0 2 (value_over (f32 0) false 0 2 (whole_is 0 (lit≤ tt)))))
    (lit≤ tt))

-- after it the weight is the place's fraction
weight_inside : (s : Float) (n : ℕ) → 0 < n → n ≤ 4096 → T (fits binary32 s) → Signed false s → Within s (n * 2 - 1) 2 → Within (s ⊖ f32 (to_unsigned 64 s)) 1 1
unfolding to_unsigned
weight_inside nan n N N' f t w = absurd w
weight_inside (inf u) n N N' f t w = absurd w
weight_inside (fin true m e) n N N' f t w = absurd (true≢false t)
weight_inside (fin false m e) n N N' f t w =
    let x = m * up e in
    let q : x / down e < n = (div-lt_iff_lt-mul (down_pos e)).1 (under x (down e) n (down_pos e) N w) in
    rw (min-eq_left {n = x / down e} {m = 2 ^ 64 - 1} (omega arith)) (fraction_within m e f (omega arith))

weight_placed : (s : Float) (n : ℕ) → 0 < n → n ≤ 4096 → T (fits binary32 s) → Placed s n → Within (s ⊖ f32 (to_unsigned 64 s)) 1 1
weight_placed s n N N' f (before_first t w) = weight_before s t w
weight_placed s n N N' f (inside t w) = weight_inside s n N N' f t w

pub weight_within : (src dst d : ℕ) → 0 < src → src ≤ 4096 → dst ≤ 4096 → d < dst → Within (tap_of src dst d).weight 1 1
unfolding tap_of
weight_within src dst d S S' D' l = rw (first_cast src dst d) (weight_placed (place_of src dst d) src S S' (place_fits src dst d) (placed src dst d S S' D' l))

-- ---- blends

pub blend_within : (w a b : Float) (k : ℕ) → k ≤ 101 → Within w 1 1 → Within a (2 ^ k) 1 → Within b (2 ^ k) 1 → Within (lerp_of w a b) (2 ^ (k + 2)) 1
unfolding lerp_of
blend_within w a b k K hw ha hb =
    let v = 1f ⊖ w in
    let hv : Within v 2 1 = sub_within binary32 1f w 1 1 1 (rep_down 2 0 (lit≤ tt) (lit≤ tt)) (value_within 1f false 1 1 one_value) hw in
    let x : Within (v ⊗ a) (2 * 2 ^ k) 1 = mul_within binary32 v a 2 1 (2 ^ k) 1 (2 * 2 ^ k) 1 (lit< tt) (lit< tt) (rep_up 2 k (lit≤ tt) (omega arith)) (omega arith) hv ha in
    let y : Within (w ⊗ b) (2 ^ k) 1 = mul_within binary32 w b 1 1 (2 ^ k) 1 (2 ^ k) 1 (lit< tt) (lit< tt) (rep_pow k (omega arith)) (omega arith) hw hb in
    let three : 3 * 2 ^ k ≡ 2 * 2 ^ k + 2 ^ k = omega arith in
    within_more (v ⊗ a ⊕ w ⊗ b) (2 * 2 ^ k + 2 ^ k) 1 (2 ^ (k + 2)) 1 (lit< tt)
    (add_within binary32 (v ⊗ a) (w ⊗ b) (2 * 2 ^ k) (2 ^ k) 1 (rw three at (rep_up 3 k (lit≤ tt) (omega arith))) x y)
    (omega (arith, pow-add 2 k 2))

-- ---- pixels

module _ (src : List ℕ) (k : ℕ) (K : k ≤ 16) (below : (i : ℕ) → get_or src i 0 < 2 ^ k) (w h tw th : ℕ) (W : 0 < w) (W' : w ≤ 4096) (H : 0 < h) (H' : h ≤ 4096) (TW' : tw ≤ 4096) (TH' : th ≤ 4096) where
  gray_within : (x y : ℕ) → Within (byte_of src w x y) (2 ^ k) 1
  unfolding byte_of
  gray_within x y = whole_within (get_or src (y * w + x) 0) k (omega arith) (below (y * w + x))

  pub sample_within : (x y : ℕ) → x < tw → y < th → Within (bilinear_of src w (tap_of w tw x) (tap_of h th y)) (2 ^ (k + 4)) 1
  unfolding bilinear_of
  sample_within x y lx ly =
      let tx = tap_of w tw x in
      let ty = tap_of h th y in
      let row : ℕ → Float = λ j. lerp_of tx.weight (byte_of src w tx.first j) (byte_of src w tx.next j) in
      let each : (j : ℕ) → Within (row j) (2 ^ (k + 2)) 1 = λ j. blend_within tx.weight (byte_of src w tx.first j) (byte_of src w tx.next j) k (omega arith) (weight_within w tw x W W' TW' lx) (gray_within tx.first j) (gray_within tx.next j) in
      let four : k + 2 + 2 ≡ k + 4 = omega arith in
      rw four at (blend_within ty.weight (row ty.first) (row ty.next) (k + 2) (omega arith) (weight_within h th y H H' TH' ly) (each ty.first) (each ty.next))

  -- THE LAW, by the place in the list
  pub resize_within : 0 < tw → (i : ℕ) (z : Float) → i < tw * th → Within (get_or (resize_of src w h tw th) i z) (2 ^ (k + 4)) 1
  unfolding resize_of
  resize_within p i z l =
      let g : ℕ → ℕ → Float = λ x y. bilinear_of src w (tap_of w tw x) (tap_of h th y) in
      let q : i < th * tw = omega (arith, mul_comm tw th) in
      rw (grid_tab tw th g, get_d_tab (th * tw) i (λ j. g (j % tw) (j / tw)) z q) (sample_within (i % tw) (i / tw) (mod-lt i p) ((div-lt_iff_lt-mul p).1 q))
