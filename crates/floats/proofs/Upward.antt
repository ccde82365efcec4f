-- Values from 0 to a bound: where they come from, rounded fractions and products, and the bound as a computed test. Assumes nothing.
use mathlib.Core.Path.{◌≡◌, refl}
use mathlib.Core.Bool.{Bool, true, false, true≢false}
use Prim.Native.Nat.{ℕ, ◌*◌, ◌≤◌, ◌<◌}
use native.Mathlib.Nat.{le_of_eq, zero-mul, mul-zero, mul-pos}
use lib.Dec.{T, leb, leb→le}
use lib.Ieee.{Float, nan, inf, fin, binary32, up, down, unlike, round, mul}
use lib.Ieee.Fits.{down_pos}
use lib.Ieee.Exact.{HasValue}
use Rattle.floats.specs.Bound.{Within, UpTo, Rep}
use Rattle.floats.proofs.Within.{Signed, round_signed, round_within, mul_cross, chain}
use Rattle.floats.proofs.Values.{upto_within, upto_zero}
use Rattle.floats.proofs.Tests.{round_zero}

pub upto_of : (x : Float) (a c : ℕ) → Signed false x → Within x a c → UpTo x a c
upto_of nan a c s w = absurd w
upto_of (inf t) a c s w = absurd w
upto_of (fin false m e) a c s w = w
upto_of (fin true m e) a c s w = absurd (true≢false s)

pub value_upto : (x : Float) (a c : ℕ) → HasValue x false a c → UpTo x a c
value_upto nan a c h = absurd h
value_upto (inf t) a c h = absurd h
value_upto (fin true m e) a c h = absurd (true≢false h.0)
value_upto (fin false m e) a c h = le_of_eq h.1

-- a rounded fraction, with the sign set only where it is a zero
pub round_upto : (s : Bool) (num den a c : ℕ) → 0 < den → Rep binary32 a c → (T s → num ≡ 0) → num * c ≤ a * den → UpTo (round binary32 s num den) a c
round_upto false num den a c D r z h = upto_of (round binary32 false num den) a c (round_signed binary32 false num den) (round_within binary32 false num den a c D r h)
round_upto true num den a c D r z h = rw (z tt, round_zero true den D) refl

-- a product
no_product : (s t : Bool) (m n u v : ℕ) → (T s → m ≡ 0) → (T t → n ≡ 0) → T (unlike s t) → m * u * (n * v) ≡ 0
no_product true t m n u v h k z = rw (h tt, zero-mul u, zero-mul (n * v))
no_product false true m n u v h k z = rw (k tt, zero-mul v, mul-zero (m * u))
no_product false false m n u v h k z = absurd z

pub mul_upto : (x y : Float) (a c b d p q : ℕ) → 0 < c → 0 < d → Rep binary32 p q → a * b * q ≤ p * (c * d) → UpTo x a c → UpTo y b d → UpTo (mul binary32 x y) p q
mul_upto nan y a c b d p q C D r l h k = absurd h
mul_upto (inf s) y a c b d p q C D r l h k = absurd h
mul_upto (fin s m e) nan a c b d p q C D r l h k = absurd k
mul_upto (fin s m e) (inf t) a c b d p q C D r l h k = absurd k
mul_upto (fin s m e) (fin t n g) a c b d p q C D r l h k =
    unfold mul in
    round_upto (unlike s t) (m * up e * (n * up g)) (down e * down g) p q (mul-pos (down_pos e) (down_pos g)) r
    (no_product s t m n (up e) (up g) (upto_zero s m e a c h) (upto_zero t n g b d k))
    (chain (m * up e * (n * up g)) (down e * down g) (a * b) (c * d) p q (mul-pos C D)
    (mul_cross (m * up e) (n * up g) (down e) (down g) a b c d (upto_within (fin s m e) a c h) (upto_within (fin t n g) b d k)) l)

-- `UpTo`, with the sign clear, as a test
unfoldable pub is_up_to : ℕ → ℕ → Float → Bool
is_up_to a c nan = false
is_up_to a c (inf s) = false
is_up_to a c (fin false m e) = leb (m * up e * c) (a * down e)
is_up_to a c (fin true m e) = false

pub up_to_of_test : (a c : ℕ) (x : Float) → T (is_up_to a c x) → UpTo x a c
unfolding is_up_to
up_to_of_test a c nan t = t
up_to_of_test a c (inf s) t = t
up_to_of_test a c (fin false m e) t = leb→le (m * up e * c) (a * down e) t
up_to_of_test a c (fin true m e) t = absurd t
