-- For every two sides up to 4,096 and every target place, both indices of the tap lie inside the source. Document 000's place is rounded at each
-- step, and no error of a rounding is estimated: between src / dst and src / (dst - 1/2) there is an f32, so the rounded quotient is not above it,
-- its product by d + 1/2 is not above src, and the place is not above src - 1/2. Assumes nothing.
use mathlib.Core.Path.{◌≡◌, refl}
use mathlib.Core.Bool.{Bool, true, false, cond, true≢false}
use mathlib.Core.Logic.{◌⊎◌, inl, inr}
use Prim.Native.Nat.{ℕ, ◌+◌, ◌-◌, ◌*◌, ◌/◌, ◌^◌, ◌≤◌, ◌<◌}
use native.Mathlib.Nat.{le_trans, lt_of_le_of_lt, one-mul, mul-one, mul_comm, mul_assoc, mul_right_comm, mul_left_comm, mul-mul-mul_comm, mul-pos, add-mul, mul-sub, mul-le-mul_right, le_of_mul-le-mul_right, div-mul-le_self, lt-div-mul-add, div-lt_iff_lt-mul, min-le_left}
use native.Mathlib.Omega.{arith}
use lib.Dec.{T, ltb, lit<, lit≤}
use lib.IntN.{ℤ}
use lib.Pow.{pow_pos}
use lib.Ieee.{Float, nan, inf, fin, binary32, up, down, round, neg, sum, add, sub, fits, of_bits, to_unsigned}
use lib.Ieee.Fits.{down_pos, sub-fits}
use lib.Ieee.Exact.{HasValue}
use Rattle.floats.specs.Bound.{Within}
use Rattle.floats.specs.F32.{◌⊕◌, ◌⊖◌, ◌⊗◌, ◌⊘◌, f32, half}
use Rattle.floats.proofs.Within.{Signed, round_signed, round_within, mul_within, rep_down}
use Rattle.floats.proofs.Exactly.{whole_is, value_over, value_within, add_exact, div_value, half_value}
use Rattle.floats.proofs.Patterns.{lt_or_le}
use Rattle.resize.specs.Resize.{place_of, first_of, tap_of}
use Rattle.floats.proofs.Signs.{mul_signed}
use Rattle.numbers.proofs.Cast.{cast_negative, cast_floor_max}

-- ---- an f32 p / 2 ^ k between src / dst and src / (dst - 1/2)

record Between (src dst : ℕ) : Type 0 where
  pub k : ℕ
  pub p : ℕ
  pub small : k ≤ 149
  pub few : p ≤ 2 ^ 24
  pub above : src * 2 ^ k ≤ p * dst
  pub below : (d : ℕ) → d < dst → (d * 2 + 1) * p * 1 ≤ src * (2 * 2 ^ k)

-- src * 2 ^ k / dst, rounded up
between_at : (k src dst : ℕ) → k ≤ 149 → 0 < dst → dst ≤ 4096 → 2 ^ 13 * dst ≤ src * 2 ^ k → src * 2 ^ k ≤ 2 ^ 24 * dst → Between src dst
between_at k src dst K D D' lo hi =
    let n = src * 2 ^ k in
    let p = (n + (dst - 1)) / dst in
    let under : p * dst ≤ n + (dst - 1) = div-mul-le_self (n + (dst - 1)) dst in
    let past : n + (dst - 1) < p * dst + dst = lt-div-mul-add D in
    let over : n ≤ p * dst = omega arith in
    let many : 2 ^ 13 ≤ p = le_of_mul-le-mul_right (le_trans lo over) D in
    let top : p < 2 ^ 24 + 1 = (div-lt_iff_lt-mul D).1 (omega arith) in
    record {
      k = k;
      p = p;
      small = K;
      few = omega arith;
      above = over;
      below = λ d l. close d p under many l;
    }
  where
    close : (d p : ℕ) → p * dst ≤ src * 2 ^ k + (dst - 1) → 2 ^ 13 ≤ p → d < dst → (d * 2 + 1) * p * 1 ≤ src * (2 * 2 ^ k)
    close d p u m l =
        let r : (d * 2 + 1 + 1) * p ≤ dst * 2 * p = mul-le-mul_right p (omega arith) in
        omega (arith, add-mul (d * 2 + 1) 1 p, mul_right_comm dst 2 p, mul_comm dst p, mul_left_comm src 2 (2 ^ k))

between : (src dst : ℕ) → 0 < src → src ≤ 4096 → 0 < dst → dst ≤ 4096 → Between src dst
between src dst S S' D D' = go (lt_or_le src (2 * dst)) (lt_or_le (1024 * src) dst)
  where
    go : (src < 2 * dst) ⊎ (2 * dst ≤ src) → (1024 * src < dst) ⊎ (dst ≤ 1024 * src) → Between src dst
    go (inr h) i = between_at 12 src dst (lit≤ tt) D D' (omega arith) (omega arith)
    go (inl h) (inr i) = between_at 23 src dst (lit≤ tt) D D' (omega arith) (omega arith)
    go (inl h) (inl i) = between_at 25 src dst (lit≤ tt) D D' (omega arith) (omega arith)

-- ---- less 0.5: a place is from -1/2 to 0, or from 0 to n - 1/2

pub data Placed (s : Float) (n : ℕ) : Type 0 where
  before_first : Signed true s → Within s 1 2 → Placed s n
  inside : Signed false s → Within s (n * 2 - 1) 2 → Placed s n

sub_half : (m : ℕ) (e : ℤ) → fin false m e ⊖ half
    ≡ cond (ltb (m * up e * 2) (1 * down e)) (round binary32 true (1 * down e - m * up e * 2) (down e * 2)) (round binary32 false (m * up e * 2 - 1 * down e) (down e * 2))
unfolding sub neg add sum of_bits
sub_half m e = refl

less_half : (x : Float) (n : ℕ) → 0 < n → n ≤ 4096 → Signed false x → Within x n 1 → Placed (x ⊖ half) n
less_half nan n N N' t w = absurd w
less_half (inf u) n N N' t w = absurd w
less_half (fin true m e) n N N' t w = absurd (true≢false t)
less_half (fin false m e) n N N' t w = rw (sub_half m e) (go (ltb (m * up e * 2) (1 * down e)))
  where
    D : 0 < down e * 2
    D = mul-pos (down_pos e) (lit< tt)

    go : (b : Bool) → Placed (cond b (round binary32 true (1 * down e - m * up e * 2) (down e * 2)) (round binary32 false (m * up e * 2 - 1 * down e) (down e * 2))) n
    go true =
        before_first (round_signed binary32 true (1 * down e - m * up e * 2) (down e * 2))
        (round_within binary32 true (1 * down e - m * up e * 2) (down e * 2) 1 2 D (rep_down 1 1 (lit≤ tt) (lit≤ tt)) (omega arith))
    go false =
        inside (round_signed binary32 false (m * up e * 2 - 1 * down e) (down e * 2))
        (round_within binary32 false (m * up e * 2 - 1 * down e) (down e * 2) (n * 2 - 1) 2 D (rep_down (n * 2 - 1) 1 (omega arith) (lit≤ tt))
        (omega (arith, mul_comm (n * 2 - 1) (down e * 2), mul-sub (down e * 2) (n * 2) 1, mul-mul-mul_comm (down e) 2 n 2, mul_comm (down e) n)))

-- ---- the place

pub placed : (src dst d : ℕ) → 0 < src → src ≤ 4096 → dst ≤ 4096 → d < dst → Placed (place_of src dst d) src
unfolding place_of
placed src dst d S S' D' l =
    less_half ((f32 d ⊕ half) ⊗ (f32 src ⊘ f32 dst)) src S S' (mul_signed binary32 (f32 d ⊕ half) (f32 src ⊘ f32 dst) false false (d * 2 + 1) 2 b.p (2 ^ b.k) middle (rw scale_is (round_signed binary32 false src dst)) scale)
    (mul_within binary32 (f32 d ⊕ half) (f32 src ⊘ f32 dst) (d * 2 + 1) 2 b.p (2 ^ b.k) src 1 (lit< tt) (pow_pos b.k) (rep_down src 0 (omega arith) (lit≤ tt)) (b.below d l) (value_within (f32 d ⊕ half) false (d * 2 + 1) 2 middle) scale)
  where
    D : 0 < dst
    D = omega arith

    b : Between src dst
    b = between src dst S S' D D'

    -- d + 0.5, exactly
    middle : HasValue (f32 d ⊕ half) false (d * 2 + 1) 2
    middle = add_exact binary32 (f32 d) half (d * 2) 1 2 (rep_down (d * 2 + 1) 1 (omega arith) (lit≤ tt)) (value_over (f32 d) false d 2 (whole_is d (omega arith))) half_value

    scale_is : f32 src ⊘ f32 dst ≡ round binary32 false src dst
    scale_is = rw (mul-one src, one-mul dst) at (div_value binary32 (f32 src) (f32 dst) false false src 1 dst 1 (lit< tt) D (whole_is src (omega arith)) (whole_is dst (omega arith)))

    scale : Within (f32 src ⊘ f32 dst) b.p (2 ^ b.k)
    scale = rw scale_is (round_within binary32 false src dst b.p (2 ^ b.k) D (rep_down b.p b.k b.few b.small) b.above)

-- ---- the indices

-- the size of a place before the end is a fraction below n
pub under : (x y n : ℕ) → 0 < y → 0 < n → x * 2 ≤ (n * 2 - 1) * y → x < n * y
under x y n Y N h = omega (arith, mul_comm (n * 2 - 1) y, mul-sub y (n * 2) 1, mul_assoc y n 2, mul_comm y n, mul-pos N Y)

cast_inside : (s : Float) (n : ℕ) → 0 < n → Signed false s → Within s (n * 2 - 1) 2 → to_unsigned 64 s < n
unfolding to_unsigned
cast_inside nan n N t w = absurd w
cast_inside (inf u) n N t w = absurd w
cast_inside (fin true m e) n N t w = absurd (true≢false t)
cast_inside (fin false m e) n N t w = lt_of_le_of_lt (min-le_left (m * up e / down e) (2 ^ 64 - 1)) ((div-lt_iff_lt-mul (down_pos e)).1 (under (m * up e) (down e) n (down_pos e) N w))

cast_placed : (s : Float) (n : ℕ) → 0 < n → Placed s n → to_unsigned 64 s < n
cast_placed s n N (before_first t w) = rw (cast_negative s t) N
cast_placed s n N (inside t w) = cast_inside s n N t w

pub place_fits : (src dst d : ℕ) → T (fits binary32 (place_of src dst d))
unfolding place_of
place_fits src dst d = sub-fits binary32 ((f32 d ⊕ half) ⊗ (f32 src ⊘ f32 dst)) half

-- the first index is the cast of the place
pub first_cast : (src dst d : ℕ) → first_of (place_of src dst d) ≡ to_unsigned 64 (place_of src dst d)
unfolding first_of
first_cast src dst d = cast_floor_max (place_of src dst d) (place_fits src dst d)

-- THE LAW
pub tap_inside : (src dst d : ℕ) → 0 < src → src ≤ 4096 → dst ≤ 4096 → d < dst → ((tap_of src dst d).first < src) × ((tap_of src dst d).next < src)
unfolding tap_of
tap_inside src dst d S S' D' l =
    let h : first_of (place_of src dst d) < src = rw (first_cast src dst d) (cast_placed (place_of src dst d) src S (placed src dst d S S' D' l)) in
    (h, omega arith)
