-- What a value adds and takes away, by its bit pattern and by its bounds; and the shift that decides alone. Assumes nothing.
use mathlib.Core.Path.{◌≡◌, refl, sym, ap, ap₂, ◌∙◌}
use mathlib.Core.Bool.{Bool, true, false, not}
use Prim.Native.Nat.{ℕ, zero-le, ◌+◌, ◌*◌, ◌%◌, ◌^◌, ◌≤◌}
use native.Mathlib.Nat.{le_refl, le_trans, le_of_eq, mul-one, mul-le-mul, mul-le-mul_left}
use native.Mathlib.Omega.{arith}
use lib.Dec.{T, leb, lit≤}
use lib.Pow.{pow_pos}
use lib.Ieee.{Float, binary32, unlike, fits, to_bits}
use lib.Ieee.Scale.{finite}
use Rattle.lists.specs.Marked.{pick}
use Rattle.floats.specs.Bound.{Within}
use Rattle.floats.specs.Units.{units_of, units_at, sign_of}
use Rattle.floats.proofs.Values.{value_sign, value_bound}
use Rattle.floats.proofs.Patterns.{value_units, own_pattern, units_mono}
use Rattle.floats.proofs.Within.{within_finite}
use Rattle.floats.proofs.Units.{units_value}
use Rattle.middle.specs.Held.{capped_of, difference_of}
use Rattle.middle.specs.Wide.{pattern_share}
use Rattle.middle.specs.Motion.{share_of, image_of, motion_of}
use Rattle.middle.proofs.Nearest.{far_back, far_ahead}

-- ---- by the pattern

module _ (x : Float) (f : T (fits binary32 x)) (n : T (finite x)) where
  pub pattern_sign : sign_of x ≡ leb 2147483648 (to_bits binary32 x)
  pattern_sign = value_sign x _ _ _ (own_pattern x f n)

  pub pattern_units : units_of x ≡ units_at (to_bits binary32 x % 2147483648)
  pattern_units = value_units x _ _ (own_pattern x f n)

  pub pattern_share_lem : (back : Bool) → pattern_share back (to_bits binary32 x) ≡ share_of back x
  pattern_share_lem back = rw (pattern_sign, pattern_units)

-- ---- by a bound

pub units_le : (x : Float) (a : ℕ) → T (fits binary32 x) → Within x a 1 → units_of x ≤ a * 2 ^ 149
units_le x a f w = le_trans (le_of_eq (sym (mul-one (units_of x)))) (value_bound x (sign_of x) (units_of x) (2 ^ 149) a 1 (units_value x f (within_finite x a 1 w)) w)

share_units : (back : Bool) (x : Float) → share_of back x ≤ units_of x
unfolding pick
share_units back x = go (unlike (sign_of x) back)
  where
    go : (b : Bool) → pick b 0 (units_of x) ≤ units_of x
    go true = zero-le
    go false = le_refl (units_of x)

pub share_le : (back : Bool) (x : Float) (a : ℕ) → T (fits binary32 x) → Within x a 1 → share_of back x ≤ a * 2 ^ 149
share_le back x a f w = le_trans (share_units back x) (units_le x a f w)

-- ---- the shift alone, from 2 ^ 14 on

pub own_share : (s : Bool) (t : Float) → sign_of t ≡ s → share_of s t ≡ units_of t
unfolding pick
own_share true t e = rw e
own_share false t e = rw e

pub other_share : (s : Bool) (t : Float) → sign_of t ≡ s → share_of (not s) t ≡ 0
unfolding pick
other_share true t e = rw e
other_share false t e = rw e

-- with the turn's terms at most 16380 and the shift's at least 32768
module _ (u x y z x' y' z' t n : ℕ) (a : x ≤ 4095 * u) (b : y ≤ 8190 * u) (c : z ≤ 4095 * u) (e : n ≡ 0) (h : 16384 * u ≤ t) where
  outweighed_ahead : 128 * (x + y) + 256 * n + 128 * z + 32768 * u ≤ 128 * (x' + y') + 256 * t
  outweighed_ahead = omega arith

  outweighed_back : 128 * (x + y) + 256 * n + 32768 * u ≤ 128 * (x' + y') + 256 * t + 128 * z'
  outweighed_back = omega arith

module _ (p : Float) (a : ℕ) (q : Float) (b : ℕ) (t : Float)
    (P : T (fits binary32 p)) (Q : T (fits binary32 q)) (p_le : Within p 1 1) (q_le : Within q 2 1) (A : a ≤ 4095) (B : b ≤ 4095)
    (R : T (fits binary32 t)) (n : T (finite t)) (far : 1182793728 ≤ to_bits binary32 t % 2147483648) where
  first : (s : Bool) → share_of s p * a ≤ 4095 * 2 ^ 149
  first s = le_trans (mul-le-mul (share_le s p 1 P p_le) A) (lit≤ tt)

  second : (s : Bool) → share_of s q * b ≤ 8190 * 2 ^ 149
  second s = le_trans (mul-le-mul (share_le s q 2 Q q_le) B) (lit≤ tt)

  third : 2 ^ 149 * a ≤ 4095 * 2 ^ 149
  third = le_trans (mul-le-mul_left (2 ^ 149) A) (lit≤ tt)

  large : 16384 * 2 ^ 149 ≤ units_of t
  unfolding pick
  large = rw (pattern_units t R n) (units_mono 1182793728 (to_bits binary32 t % 2147483648) far)

  pub far_motion : motion_of p a q b t ≡ capped_of (sign_of t) 32768
  unfolding motion_of
  far_motion = go (sign_of t) refl
    where
      u : ℕ
      u = 2 ^ 149

      go : (s : Bool) → sign_of t ≡ s → motion_of p a q b t ≡ capped_of s 32768
      go true e =
          far_back (image_of false p a q b t) (image_of true p a q b t + 128 * (u * a)) u (pow_pos 149)
          (outweighed_back u (share_of false p * a) (share_of false q * b) (u * a) (share_of true p * a) (share_of true q * b) (u * a) (share_of true t) (share_of false t) (first false) (second false) third (other_share true t e) (rw (own_share true t e) large))
      go false e =
          far_ahead (image_of false p a q b t) (image_of true p a q b t + 128 * (u * a)) u (pow_pos 149)
          (outweighed_ahead u (share_of true p * a) (share_of true q * b) (u * a) (share_of false p * a) (share_of false q * b) (u * a) (share_of false t) (share_of true t) (first true) (second true) third (other_share false t e) (rw (own_share false t e) large))

-- ---- the sums by patterns are the definition's

doubled : (x y z : ℕ) → 128 * (x + y + z * 2) ≡ 128 * (x + y) + 256 * z
doubled x y z = omega arith

with_point : (x y z w : ℕ) → 128 * (x + y + z * 2 + w) ≡ 128 * (x + y) + 256 * z + 128 * w
with_point x y z w = omega arith

module _ (p : Float) (a : ℕ) (q : Float) (b : ℕ) (t : Float) (P : T (fits binary32 p)) (p_finite : T (finite p)) (Q : T (fits binary32 q)) (q_finite : T (finite q))
    (R : T (fits binary32 t)) (t_finite : T (finite t)) where
  -- what is added, or taken away, by patterns
  abbrev pub pattern_sum : Bool → ℕ
  pattern_sum back = pattern_share back (to_bits binary32 p) * a + pattern_share back (to_bits binary32 q) * b + pattern_share back (to_bits binary32 t) * 2

  sums : (back : Bool) → pattern_sum back ≡ share_of back p * a + share_of back q * b + share_of back t * 2
  sums back = rw (pattern_share_lem p P p_finite back, pattern_share_lem q Q q_finite back, pattern_share_lem t R t_finite back)

  pub motion_is : (g l : ℕ) → g ≡ pattern_sum false → l ≡ pattern_sum true + units_at 1065353216 * a → difference_of (128 * g) (128 * l) (2 ^ 149) ≡ motion_of p a q b t
  unfolding motion_of pick
  motion_is g l G L =
      ap₂ (λ (x y : ℕ). difference_of (128 * x) (128 * y) (2 ^ 149)) (G ∙ sums false) (L ∙ ap (λ (z : ℕ). z + 2 ^ 149 * a) (sums true))
      ∙ ap₂ (λ (x y : ℕ). difference_of x y (2 ^ 149))
      (doubled (share_of false p * a) (share_of false q * b) (share_of false t))
      (with_point (share_of true p * a) (share_of true q * b) (share_of true t) (2 ^ 149 * a))
