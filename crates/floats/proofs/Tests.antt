-- Tests of values: of two that are not negative by their fractions, and against zero by the sign and the digits; how a zero and a whole number with a
-- sign are written; how many digits a value has. Assumes nothing.
use mathlib.Core.Path.{◌≡◌, refl, sym, ap, ◌∙◌}
use mathlib.Core.Bool.{Bool, true, false, not, ◌&&◌, ◌||◌, beq, cond}
use Prim.Native.Nat.{ℕ, zero, suc, ◌*◌, ◌^◌, ◌<◌, zero-le}
use native.Mathlib.Nat.{add-zero, zero-mul, mul-one, mul_comm, mul-mul-mul_comm, mul-pos, mul-le-mul_right, mul-lt-mul_of_pos_right}
use native.Mathlib.Omega.{arith}
use borrow.Author.Tests.{ltb-true, ltb-false, lt-ltb, le-ltb}
use lib.Dec.{T, ltb, eqb, eqb-suc-zero, lit<}
use lib.Pow.{pow_pos}
use lib.IntN.{ℤ, pos}
use lib.Ieee.{Float, fin, Format, binary32, prec, up, down, round, neg, lt, eq, of_int, fits}
use lib.Ieee.Fits.{up_pos, down_pos}
use lib.Ieee.Exact.{HasValue}
use lib.Ieee.Scale.{round_same}
use Rattle.floats.proofs.Within.{round_neg}
use Rattle.floats.proofs.Exactly.{fits_few, round_value}
use Rattle.floats.proofs.Values.{by_values}

-- ---- tests of two values that are not negative

-- a test of two numbers is that of both times k
ltb_times : (a b k : ℕ) → 0 < k → ltb (a * k) (b * k) ≡ ltb a b
ltb_times a b k K = go (ltb a b) refl
  where
    go : (t : Bool) → ltb a b ≡ t → ltb (a * k) (b * k) ≡ t
    go true h = lt-ltb (a * k) (b * k) (mul-lt-mul_of_pos_right (ltb-true a b h) K)
    go false h = le-ltb (a * k) (b * k) (mul-le-mul_right k (ltb-false a b h))

-- x / u is a / c: both times v and d
crossed : (x u v a c d : ℕ) → x * c ≡ a * u → x * v * (c * d) ≡ a * d * (u * v)
crossed x u v a c d h = mul-mul-mul_comm x v c d ∙ ap (λ (z : ℕ). z * (v * d)) h ∙ ap (λ (z : ℕ). a * u * z) (mul_comm v d) ∙ mul-mul-mul_comm a u d v

-- x / u is a / c, and y / v is b / d
ltb_crossed : (x u y v a c b d : ℕ) → 0 < u → 0 < v → 0 < c → 0 < d → x * c ≡ a * u → y * d ≡ b * v → ltb (x * v) (y * u) ≡ ltb (a * d) (b * c)
ltb_crossed x u y v a c b d U W C D h k =
    sym (ltb_times (x * v) (y * u) (c * d) (mul-pos C D))
    ∙ ap (λ (z : ℕ). ltb z (y * u * (c * d))) (crossed x u v a c d h)
    ∙ ap (λ (z : ℕ). ltb (a * d * (u * v)) z) (ap (λ (z : ℕ). y * u * z) (mul_comm c d) ∙ crossed y v u b d c k ∙ ap (λ (z : ℕ). b * c * z) (mul_comm v u))
    ∙ ltb_times (a * d) (b * c) (u * v) (mul-pos U W)

-- x < y for x = a / c and y = b / d
pub lt_values : (x y : Float) (a c b d : ℕ) → 0 < c → 0 < d → HasValue x false a c → HasValue y false b d → lt x y ≡ ltb (a * d) (b * c)
unfolding lt
lt_values x y a c b d C D h k =
    by_values (λ x y. lt x y ≡ ltb (a * d) (b * c)) false false a c b d (λ m e n g p q. ltb_crossed (m * up e) (down e) (n * up g) (down g) a c b d (down_pos e) (down_pos g) C D p q) x y h k

-- ---- tests against zero

-- a size is above zero where the digits are
size_pos : (m : ℕ) (e : ℤ) → ltb 0 (m * up e * 1) ≡ ltb 0 m
size_pos m e = ap (λ (z : ℕ). ltb 0 z) (mul-one (m * up e)) ∙ ap (λ (z : ℕ). ltb z (m * up e)) (sym (zero-mul (up e))) ∙ ltb_times 0 m (up e) (up_pos e)

pub below_zero : (s : Bool) (m : ℕ) (e : ℤ) → lt (fin s m e) (fin false 0 (pos 0)) ≡ (s && ltb 0 m)
unfolding lt
below_zero true m e = rw (zero-mul (down e), add-zero, size_pos)
below_zero false m e = rw (zero-mul (down e)) (le-ltb (m * up e * 1) 0 zero-le)

pub above_zero : (s : Bool) (m : ℕ) (e : ℤ) → lt (fin false 0 (pos 0)) (fin s m e) ≡ (not s && ltb 0 m)
unfolding lt
above_zero true m e = refl
above_zero false m e = rw (zero-mul (down e), size_pos)

pub is_zero : (s : Bool) (m : ℕ) (e : ℤ) → eq (fin s m e) (fin false 0 (pos 0)) ≡ not (ltb 0 m)
unfolding eq
is_zero s m e = rw (zero-mul (down e), none (m * up e * 1), size_pos) (twice (not (ltb 0 m)) (beq s false))
  where
    none : (n : ℕ) → eqb n 0 ≡ not (ltb 0 n)
    none zero = refl
    none (suc n) = eqb-suc-zero n ∙ ap not (sym (lt-ltb 0 (suc n) (omega arith)))

    twice : (b t : Bool) → (b && (t || b)) ≡ b
    twice true true = refl
    twice true false = refl
    twice false t = refl

-- ---- how values are written

-- nothing over c is a zero
pub round_zero : (s : Bool) (c : ℕ) → 0 < c → round binary32 s 0 c ≡ fin s 0 (pos 0)
unfolding round
round_zero s c C = round_same binary32 s 0 c 0 1 C (lit< tt) (sym (zero-mul c))

-- a zero has one form for each sign
pub zero_is : (s : Bool) (m : ℕ) (e : ℤ) → T (fits binary32 (fin s m e)) → m ≡ 0 → fin s 0 (pos 0) ≡ fin s m e
zero_is s m e f h = sym (round_zero s 1 (lit< tt)) ∙ round_value binary32 (fin s m e) s 0 1 (lit< tt) f (refl, rw (h, zero-mul (up e), zero-mul (down e)))

-- a whole number with a sign
pub signed_whole : (s : Bool) (n : ℕ) → round binary32 s n 1 ≡ cond s (neg (of_int binary32 (pos n))) (of_int binary32 (pos n))
unfolding of_int
signed_whole true n = round_neg binary32 n 1
signed_whole false n = refl

pub few_digits : (f : Format) (s : Bool) (m : ℕ) (e : ℤ) → T (fits f (fin s m e)) → m < 2 ^ prec f
few_digits f s zero e p = pow_pos (prec f)
few_digits f s (suc m) e p = fits_few f s m e p
