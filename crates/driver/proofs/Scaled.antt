-- A pin's number from the f32 product with a power of two is the number from the exact product: below 32768 in size the product is exact, and from
-- there on both are held to the same end. Assumes nothing.
use Rattle.std.proofs.Common.{◌≡◌, ℕ, ◌+◌, ◌*◌, ◌^◌, ◌<◌, ◌≤◌, Bool, true, false, not, T, ltb, ℤ, pos, sym, refl, ap, ◌∙◌, lt_of_lt_of_le, mul-le-mul_right, mul_comm, add-mul, one-mul, mul-one, arith, lit≤, ltb-false, ltb-true}
use native.Mathlib.Nat.{mul-mul-mul_comm}
use lib.Ieee.{Float, nan, inf, fin, binary32, up, down, round, mul, neg, is_nan, fits}
use lib.Ieee.Exact.{HasValue}
use lib.Ieee.Fits.{down_pos}
use lib.Ieee.Nearest.{div_same}
use lib.Ieee.Scale.{finite}
use Rattle.floats.specs.Bound.{AtLeast}
use Rattle.floats.proofs.Within.{Signed, round_signed, round_neg, rep_down}
use Rattle.floats.proofs.Exactly.{mul_pow_exact}
use Rattle.floats.proofs.Signs.{round_at_least}
use Rattle.middle.specs.Held.{capped_of, nearest_capped}
use Rattle.middle.proofs.Nearest.{nearest_far}
use Rattle.driver.specs.Pins.{pin_of}

-- ---- fractions

-- a / c and n / d are the same
pub nearest_same : (s : Bool) (a c n d : ℕ) → 0 < c → 0 < d → a * d ≡ n * c → nearest_capped s a c ≡ nearest_capped s n d
unfolding nearest_capped
nearest_same s a c n d C D h = ap (capped_of s) (div_same (2 * a + c) (2 * c) (2 * n + d) (2 * d) (omega arith) (omega arith) (doubled h))
  where
    doubled : a * d ≡ n * c → (2 * a + c) * (2 * d) ≡ (2 * n + d) * (2 * c)
    doubled h = omega (arith, add-mul (2 * a) c (2 * d), add-mul (2 * n) d (2 * c), mul-mul-mul_comm 2 a 2 d, mul-mul-mul_comm 2 n 2 c, mul_comm c (2 * d), mul_comm d (2 * c))

-- ---- values

value_pin : (y : Float) (s : Bool) (n d : ℕ) → 0 < d → HasValue y s n d → pin_of 1 y ≡ nearest_capped s n d
unfolding pin_of
value_pin nan s n d D h = absurd h
value_pin (inf t) s n d D h = absurd h
value_pin (fin t m e) s n d D h = rw (h.0, one-mul (m * up e)) (nearest_same s (m * up e) (down e) n d (down_pos e) D h.1)

far_pin : (y : Float) (s : Bool) → Signed s y → (T (finite y) → AtLeast y 32768 1) → pin_of 1 y ≡ capped_of s 32768
unfolding pin_of
far_pin nan s g h = absurd g
far_pin (inf t) s g h = rw g
far_pin (fin t m e) s g h = rw (g, one-mul (m * up e)) (nearest_far s (m * up e) (down e) (down_pos e) (omega (arith, h tt)))

opposite : (x y : Float) → x ≡ neg y → (T (finite y) → AtLeast y 32768 1) → T (finite x) → AtLeast x 32768 1
unfolding neg
opposite x nan e h f = absurd (rw e at f)
opposite x (inf s) e h f = absurd (rw e at f)
opposite x (fin s m k) e h f = rw e (h tt)

-- a fraction from 32768 on, rounded
far_plain : (n d : ℕ) → 0 < d → 32768 * d ≤ n → T (finite (round binary32 false n d)) → AtLeast (round binary32 false n d) 32768 1
far_plain n d D h f = round_at_least binary32 n d 32768 1 D (rep_down 32768 0 (lit≤ tt) (lit≤ tt)) (omega arith) f

far_rounded : (s : Bool) (n d : ℕ) → 0 < d → 32768 * d ≤ n → T (finite (round binary32 s n d)) → AtLeast (round binary32 s n d) 32768 1
far_rounded false n d D h f = far_plain n d D h f
far_rounded true n d D h f = opposite (round binary32 true n d) (round binary32 false n d) (round_neg binary32 n d) (far_plain n d D h) f

-- ---- products with a power of two

product : (s : Bool) (m : ℕ) (e : ℤ) (t : ℕ) → mul binary32 (fin s m e) (fin false 1 (pos t)) ≡ round binary32 s (m * up e * 2 ^ t) (down e)
unfolding mul
product true m e t = rw (one-mul (2 ^ t), mul-one (down e))
product false m e t = rw (one-mul (2 ^ t), mul-one (down e))

signed_number : (s : Bool) (y : Float) → Signed s y → T (not (is_nan y))
unfolding is_nan
signed_number s nan g = g
signed_number s (inf t) g = tt
signed_number s (fin t m e) g = tt

-- of a finite value it is a number
pub times_number : (x : Float) (t : ℕ) → T (finite x) → T (not (is_nan (mul binary32 x (fin false 1 (pos t)))))
times_number nan t f = absurd f
times_number (inf s) t f = absurd f
times_number (fin s m e) t f = rw (product s m e t) (signed_number s (round binary32 s (m * up e * 2 ^ t) (down e)) (round_signed binary32 s (m * up e * 2 ^ t) (down e)))

-- THE LAW
pub pin_times : (x : Float) (t : ℕ) → T (fits binary32 x) → T (finite x) → pin_of 1 (mul binary32 x (fin false 1 (pos t))) ≡ pin_of (2 ^ t) x
unfolding pin_of
pin_times nan t p f = absurd f
pin_times (inf s) t p f = absurd f
pin_times (fin s m e) t p f = go (ltb n (32768 * d)) refl ∙ ap (λ (z : ℕ). nearest_capped s z d) (mul_comm (m * up e) (2 ^ t))
  where
    d : ℕ
    d = down e

    n : ℕ
    n = m * up e * 2 ^ t

    y : Float
    y = mul binary32 (fin s m e) (fin false 1 (pos t))

    go : (b : Bool) → ltb n (32768 * d) ≡ b → pin_of 1 y ≡ nearest_capped s n d
    go true h = value_pin y s n d (down_pos e) (mul_pow_exact binary32 s m e t p (lt_of_lt_of_le (ltb-true n (32768 * d) h) (mul-le-mul_right d (lit≤ tt))))
    go false h =
        let far : 32768 * d ≤ n = ltb-false n (32768 * d) h in
        rw (product s m e t) (far_pin (round binary32 s n d) s (round_signed binary32 s n d) (far_rounded s n d (down_pos e) far))
        ∙ sym (nearest_far s n d (down_pos e) far)
