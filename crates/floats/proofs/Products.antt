-- A product and a sum of two floats are the same either way round. Assumes nothing.
use Prim.Native.Nat.{ℕ, ◌-◌, ◌*◌}
use mathlib.Core.Path.{◌≡◌, refl, ap, ap₂, ◌∙◌}
use mathlib.Core.Bool.{Bool, true, false, ◌&&◌, beq, cond}
use native.Mathlib.Nat.{add_comm, mul_comm, lt_irrefl, lt_trans}
use native.Mathlib.Omega.{arith}
use borrow.Author.Tests.{ltb-true, ltb-false}
use lib.Dec.{ltb, eqb}
use lib.Ieee.{Float, nan, inf, fin, Format, unlike, up, down, round, sum, add, mul}

unlike_comm : (s t : Bool) → unlike s t ≡ unlike t s
unlike_comm true true = refl
unlike_comm true false = refl
unlike_comm false true = refl
unlike_comm false false = refl

-- x * y is y * x, a NaN, infinities and zeros included
pub times_comm : (f : Format) (x y : Float) → mul f x y ≡ mul f y x
unfolding mul
times_comm f nan nan = refl
times_comm f nan (inf t) = refl
times_comm f nan (fin t n d) = refl
times_comm f (inf s) nan = refl
times_comm f (inf s) (inf t) = ap inf (unlike_comm s t)
times_comm f (inf s) (fin t n d) = ap (λ (u : Bool). cond (eqb n 0) nan (inf u)) (unlike_comm s t)
times_comm f (fin s m e) nan = refl
times_comm f (fin s m e) (inf t) = ap (λ (u : Bool). cond (eqb m 0) nan (inf u)) (unlike_comm s t)
times_comm f (fin s m e) (fin t n d) =
    ap (λ (u : Bool). round f u (m * up e * (n * up d)) (down e * down d)) (unlike_comm s t)
    ∙ ap₂ (round f (unlike t s)) (mul_comm (m * up e) (n * up d)) (mul_comm (down e) (down d))

-- ---- sums

-- of unlike signs, by which of the sizes a and b is the larger
apart : (f : Format) (s t : Bool) (a b c : ℕ) → cond (ltb a b) (round f t (b - a) c) (round f (s && ltb b a) (a - b) c) ≡ cond (ltb b a) (round f s (a - b) c) (round f (t && ltb a b) (b - a) c)
apart f s t a b c = by (ltb a b) (ltb b a) refl refl
  where
    off : (s : Bool) → (s && false) ≡ false
    off true = refl
    off false = refl

    on : (s : Bool) → (s && true) ≡ s
    on true = refl
    on false = refl

    by : (p q : Bool) → ltb a b ≡ p → ltb b a ≡ q → cond (ltb a b) (round f t (b - a) c) (round f (s && ltb b a) (a - b) c) ≡ cond (ltb b a) (round f s (a - b) c) (round f (t && ltb a b) (b - a) c)
    by true true e g = absurd (lt_irrefl a (lt_trans (ltb-true a b e) (ltb-true b a g)))
    by true false e g = rw (e, g, on t)
    by false true e g = rw (e, g, on s)
    by false false e g =
        let k : a - b ≡ b - a = omega (arith, ltb-false a b e, ltb-false b a g) in
        rw (e, g, off s, off t, k)

sum_comm : (f : Format) (s : Bool) (a : ℕ) (t : Bool) (b c : ℕ) → sum f s a t b c ≡ sum f t b s a c
unfolding sum
sum_comm f true a true b c = ap (λ (z : ℕ). round f true z c) (add_comm a b)
sum_comm f true a false b c = apart f true false a b c
sum_comm f false a true b c = apart f false true a b c
sum_comm f false a false b c = ap (λ (z : ℕ). round f false z c) (add_comm a b)

infinities : (s t : Bool) → cond (beq s t) (inf s) nan ≡ cond (beq t s) (inf t) nan
infinities true true = refl
infinities true false = refl
infinities false true = refl
infinities false false = refl

-- x + y is y + x, a NaN, infinities and zeros included
pub plus_comm : (f : Format) (x y : Float) → add f x y ≡ add f y x
unfolding add
plus_comm f nan nan = refl
plus_comm f nan (inf t) = refl
plus_comm f nan (fin t n d) = refl
plus_comm f (inf s) nan = refl
plus_comm f (inf s) (inf t) = infinities s t
plus_comm f (inf s) (fin t n d) = refl
plus_comm f (fin s m e) nan = refl
plus_comm f (fin s m e) (inf t) = refl
plus_comm f (fin s m e) (fin t n d) =
    sum_comm f s (m * up e * down d) t (n * up d * down e) (down e * down d) ∙ ap (sum f t (n * up d * down e) s (m * up e * down d)) (mul_comm (down e) (down d))
