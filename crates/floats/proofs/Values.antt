-- What is known of a value by its fraction or by a bound on it: how it is written, that it is finite, its sign, other bounds. Assumes nothing.
use mathlib.Core.Path.{◌≡◌, sym, ap, ◌∙◌, subst}
use mathlib.Core.Bool.{Bool, true, false, not}
use Prim.Native.Nat.{ℕ, zero-le, ◌*◌, ◌≤◌}
use native.Mathlib.Nat.{le_trans, le_of_eq, zero-mul, mul_right_comm, mul-le-mul_right, le_of_mul-le-mul_right}
use lib.Dec.{T}
use lib.IntN.{ℤ}
use lib.Ieee.{Float, nan, inf, fin, up, down, is_nan}
use lib.Ieee.Fits.{down_pos}
use lib.Ieee.Exact.{HasValue}
use lib.Ieee.Scale.{finite}
use Rattle.floats.specs.Bound.{Within, UpTo, AtLeast}
use Rattle.floats.specs.Units.{sign_of}

-- what holds of every way to write a value holds of the value: of ±a / c, and of two
pub by_value : (P : Float → Type 0) (s : Bool) (a c : ℕ) → ((m : ℕ) (e : ℤ) → m * up e * c ≡ a * down e → P (fin s m e)) → (x : Float) → HasValue x s a c → P x
by_value P s a c all nan h = absurd h
by_value P s a c all (inf t) h = absurd h
by_value P s a c all (fin t m e) h = subst (λ (u : Bool). P (fin u m e)) (sym h.0) (all m e h.1)

pub by_values : (P : Float → Float → Type 0) (s t : Bool) (a c b d : ℕ) →
    ((m : ℕ) (e : ℤ) (n : ℕ) (g : ℤ) → m * up e * c ≡ a * down e → n * up g * d ≡ b * down g → P (fin s m e) (fin t n g)) →
    (x y : Float) → HasValue x s a c → HasValue y t b d → P x y
by_values P s t a c b d all x y h k = by_value (λ x. P x y) s a c (λ m e p. by_value (P (fin s m e)) t b d (λ n g q. all m e n g p q) y k) x h

pub value_at_least : (x : Float) (s : Bool) (a c : ℕ) → HasValue x s a c → AtLeast x a c
value_at_least x s a c = by_value (λ x. AtLeast x a c) s a c (λ m e h. le_of_eq (sym h)) x

pub value_finite : (x : Float) (s : Bool) (a c : ℕ) → HasValue x s a c → T (finite x)
value_finite nan s a c h = absurd h
value_finite (inf t) s a c h = absurd h
value_finite (fin t m e) s a c h = tt

pub value_sign : (x : Float) (s : Bool) (a c : ℕ) → HasValue x s a c → sign_of x ≡ s
value_sign nan s a c h = absurd h
value_sign (inf t) s a c h = absurd h
value_sign (fin t m e) s a c h = h.0

pub finite_number : (x : Float) → T (finite x) → T (not (is_nan x))
unfolding is_nan
finite_number nan t = absurd t
finite_number (inf s) t = absurd t
finite_number (fin s m e) t = tt

pub upto_within : (x : Float) (a c : ℕ) → UpTo x a c → Within x a c
upto_within nan a c h = absurd h
upto_within (inf s) a c h = absurd h
upto_within (fin false m e) a c h = h
upto_within (fin true m e) a c h = le_trans (le_of_eq (ap (λ (n : ℕ). n * up e * c) h ∙ ap (λ (n : ℕ). n * c) (zero-mul (up e)) ∙ zero-mul c)) zero-le

-- with the sign set it is -0
pub upto_zero : (s : Bool) (m : ℕ) (e : ℤ) (a c : ℕ) → UpTo (fin s m e) a c → T s → m ≡ 0
upto_zero true m e a c h t = h
upto_zero false m e a c h t = absurd t

-- a value u / d within a / c
pub value_bound : (x : Float) (s : Bool) (u d a c : ℕ) → HasValue x s u d → Within x a c → u * c ≤ a * d
value_bound nan s u d a c h w = absurd h
value_bound (inf t) s u d a c h w = absurd h
value_bound (fin t m e) s u d a c h w =
    le_of_mul-le-mul_right
    (le_trans (le_of_eq (mul_right_comm u c (down e) ∙ ap (λ (z : ℕ). z * c) (sym h.1) ∙ mul_right_comm (m * up e) d c))
    (le_trans (mul-le-mul_right d w) (le_of_eq (mul_right_comm a (down e) d))))
    (down_pos e)
