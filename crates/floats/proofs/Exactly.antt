-- A value is written in one way, a value of the format rounds to itself, a product with a power of two is exact, and so are sums of small whole numbers. Assumes nothing.
use mathlib.Core.Path.{◌≡◌, refl, sym, ap, ap₂, ◌∙◌, subst}
use Prim.Native.Nat.{ℕ, zero, suc, ◌+◌, ◌-◌, ◌*◌, ◌/◌, ◌^◌, ◌≤◌, ◌<◌}
use native.Mathlib.Nat.{lt_irrefl, le_trans, le_of_eq, lt_of_lt_of_le, lt_of_le_of_lt, zero-mul, mul-one, one-mul, mul_comm, mul_assoc, mul_right_comm, mul-pos, mul-lt-mul_of_pos_right, lt_of_mul-lt-mul_right, mul-mul-mul_comm, add-mul, le-add_right, le-add_left, le_of_lt}
use native.Mathlib.Omega.{arith}
use mathlib.Core.Bool.{Bool, true, false, cond}
use lib.Dec.{T, ltb, ltb→lt, leb→le, lit<, lit≤, nltb→le, not_T, eqb-suc-zero}
use lib.IntN.{ℤ, pos, negsuc}
use lib.Pow.{pow-lt, pow_pos, pow-add, pow_mono}
use lib.Ieee.{Float, nan, inf, fin, Format, binary32, prec, emax, low, up, down, unlike, size, round, sum, add, mul, fits, of_int, of_bits, to_bits, hid, top, div}
use lib.Ieee.Fits.{down_pos, and_l, and_r, round-fits, of_int-fits, add-fits, mul-fits, up_pos}
use lib.Ieee.Bits.{of_bits-to_bits}
use lib.Ieee.Exact.{HasValue, round_exact}
use lib.Ieee.Back.{round_whole}
use lib.Ieee.Nearest.{div_same}
use lib.Ieee.Scale.{round_same}
use Rattle.floats.proofs.Values.{by_values}
use Rattle.floats.proofs.Within.{rep_down, within_more}
use Rattle.floats.specs.Bound.{Within, Rep}
use Rattle.floats.specs.F32.{1f, half}

-- ---- a value is written in one way

bits_of : (f : Format) (s : Bool) (m : ℕ) (e : ℤ) → to_bits f (fin s m e) ≡ cond s (top f) 0 + (size (m * up e * 2 ^ low f / down e) - prec f) * hid f + m * up e * 2 ^ low f / down e / 2 ^ (size (m * up e * 2 ^ low f / down e) - prec f)
unfolding to_bits
bits_of f s m e = refl

in_units : (x d a c l : ℕ) → 0 < d → 0 < c → x * c ≡ a * d → x * l / d ≡ a * l / c
in_units x d a c l D C h = div_same (x * l) d (a * l) c D C (mul_right_comm x l c ∙ ap (λ (z : ℕ). z * l) h ∙ mul_right_comm a d l)

value_bits : (f : Format) (x : Float) (s : Bool) (a c : ℕ) → 0 < c → HasValue x s a c → to_bits f x ≡ cond s (top f) 0 + (size (a * 2 ^ low f / c) - prec f) * hid f + a * 2 ^ low f / c / 2 ^ (size (a * 2 ^ low f / c) - prec f)
value_bits f nan s a c C h = absurd h
value_bits f (inf t) s a c C h = absurd h
value_bits f (fin t m e) s a c C h =
    bits_of f t m e
    ∙ ap (λ (u : Bool). cond u (top f) 0 + (size (m * up e * 2 ^ low f / down e) - prec f) * hid f + m * up e * 2 ^ low f / down e / 2 ^ (size (m * up e * 2 ^ low f / down e) - prec f)) h.0
    ∙ ap (λ (n : ℕ). cond s (top f) 0 + (size n - prec f) * hid f + n / 2 ^ (size n - prec f)) (in_units (m * up e) (down e) a c (2 ^ low f) (down_pos e) C h.1)

pub value_unique : (f : Format) (x y : Float) (s : Bool) (a c : ℕ) → 0 < c → T (fits f x) → T (fits f y) → HasValue x s a c → HasValue y s a c → x ≡ y
value_unique f x y s a c C p q h k = sym (of_bits-to_bits f x p) ∙ ap (λ (n : ℕ). of_bits f n) (value_bits f x s a c C h ∙ sym (value_bits f y s a c C k)) ∙ of_bits-to_bits f y q

-- a / 1 is a * c / c
pub value_over : (x : Float) (s : Bool) (a c : ℕ) → HasValue x s a 1 → HasValue x s (a * c) c
value_over nan s a c h = h
value_over (inf t) s a c h = h
value_over (fin t m e) s a c h = (h.0, ap (λ (z : ℕ). z * c) (sym (mul-one (m * up e)) ∙ h.1) ∙ mul_right_comm a (down e) c)

-- a value of a / c is within it
pub value_within : (x : Float) (s : Bool) (a c : ℕ) → HasValue x s a c → Within x a c
value_within nan s a c h = h
value_within (inf t) s a c h = h
value_within (fin t m e) s a c h = le_of_eq h.1

-- ---- what fits is a value of the format

-- the four tests of `fits`
pub fits_few : (f : Format) (s : Bool) (m : ℕ) (e : ℤ) → T (fits f (fin s (suc m) e)) → suc m < 2 ^ prec f
unfolding fits
fits_few f s m e t = ltb→lt (suc m) (2 ^ prec f) (search (and_l, and_r))

pub fits_low : (f : Format) (s : Bool) (m : ℕ) (e : ℤ) → T (fits f (fin s (suc m) e)) → down e ≤ 2 ^ low f
unfolding fits
fits_low f s m e t = leb→le (down e) (2 ^ low f) (search (and_l, and_r))

pub fits_high : (f : Format) (s : Bool) (m : ℕ) (e : ℤ) → T (fits f (fin s (suc m) e)) → suc m * up e < 2 ^ suc (emax f) * down e
unfolding fits
fits_high f s m e t = ltb→lt (suc m * up e) (2 ^ suc (emax f) * down e) (search (and_l, and_r))

pub pow_le : (i j : ℕ) → 2 ^ i ≤ 2 ^ j → i ≤ j
pow_le i j h = le_of_not_lt (λ (l : j < i). lt_irrefl (2 ^ i) (lt_of_le_of_lt h (pow-lt l)))
  where
    le_of_not_lt : ((j < i) → ⊥) → i ≤ j
    le_of_not_lt k = nltb→le j i (not_T (ltb j i) (λ (t : T (ltb j i)). k (ltb→lt j i t)))

-- n * t / d is q * j units of 1 / l, and below p: then q * j is below l * p
sized : (n d t l p q j : ℕ) → 0 < l → n * t * l ≡ q * j * d → n * t < p * d → q * j < l * p
sized n d t l p q j L e h =
    lt_of_mul-lt-mul_right d
    (lt_of_le_of_lt (le_of_eq (sym e))
    (lt_of_lt_of_le (mul-lt-mul_of_pos_right h L) (le_of_eq (mul_right_comm p d l ∙ ap (λ (z : ℕ). z * d) (mul_comm p l)))))

-- the exponent of 2 ^ t * 2 ^ e in units of 2 ^ -l
shifted : ℤ → ℕ → ℕ → ℕ
shifted (pos k) t l = k + t + l
shifted (negsuc k) t l = t + (l - suc k)

shifted_is : (m : ℕ) (e : ℤ) (t l : ℕ) → down e ≤ 2 ^ l → m * up e * 2 ^ t * 2 ^ l ≡ m * 2 ^ shifted e t l * down e
unfolding shifted
shifted_is m (pos k) t l h =
    ap (λ (z : ℕ). z * 2 ^ l) (mul_assoc m (2 ^ k) (2 ^ t) ∙ ap (λ (z : ℕ). m * z) (sym (pow-add 2 k t))) ∙ mul_assoc m (2 ^ (k + t)) (2 ^ l) ∙ ap (λ (z : ℕ). m * z) (sym (pow-add 2 (k + t) l)) ∙ sym (mul-one (m * 2 ^ (k + t + l)))
shifted_is m (negsuc k) t l h =
    ap (λ (z : ℕ). z * 2 ^ t * 2 ^ l) (mul-one m)
    ∙ ap (λ (z : ℕ). m * 2 ^ t * 2 ^ z) (sym (back l (suc k) (pow_le (suc k) l h)))
    ∙ ap (λ (z : ℕ). m * 2 ^ t * z) (pow-add 2 (l - suc k) (suc k))
    ∙ sym (mul_assoc (m * 2 ^ t) (2 ^ (l - suc k)) (2 ^ suc k))
    ∙ ap (λ (z : ℕ). z * 2 ^ suc k) (mul_assoc m (2 ^ t) (2 ^ (l - suc k)) ∙ ap (λ (z : ℕ). m * z) (sym (pow-add 2 t (l - suc k))))
  where
    back : (a b : ℕ) → b ≤ a → a - b + b ≡ a
    back a b h = omega arith

-- 2 ^ t times a value of the format is one, while it is below 2 ^ (emax + 1)
pub rep_scaled : (f : Format) (s : Bool) (m : ℕ) (e : ℤ) (t : ℕ) → T (fits f (fin s m e)) → m * up e * 2 ^ t < 2 ^ suc (emax f) * down e → Rep f (m * up e * 2 ^ t) (down e)
rep_scaled f s zero e t p h = record {
  q = 0;
  j = 0;
  below = down_pos e;
  few = pow_pos (prec f);
  small = pow_pos (low f + suc (emax f));
  is = ap (λ (z : ℕ). z * 2 ^ t * 2 ^ low f) (zero-mul (up e)) ∙ ap (λ (z : ℕ). z * 2 ^ low f) (zero-mul (2 ^ t)) ∙ zero-mul (2 ^ low f) ∙ sym (zero-mul (down e));
}
rep_scaled f s (suc m) e t p h =
    let i = shifted_is (suc m) e t (low f) (fits_low f s m e p) in
    record {
      q = suc m;
      j = shifted e t (low f);
      below = down_pos e;
      few = fits_few f s m e p;
      small = subst (λ (z : ℕ). suc m * 2 ^ shifted e t (low f) < z) (sym (pow-add 2 (low f) (suc (emax f)))) (sized (suc m * up e) (down e) (2 ^ t) (2 ^ low f) (2 ^ suc (emax f)) (suc m) (2 ^ shifted e t (low f)) (pow_pos (low f)) i h);
      is = i;
    }

-- ---- exact results

pub round_rep : (f : Format) (s : Bool) (a c : ℕ) → Rep f a c → HasValue (round f s a c) s a c
round_rep f s a c r = round_exact f s a c r.q r.j r.below r.few r.small r.is

times_one : (s : Bool) → unlike s false ≡ s
times_one true = refl
times_one false = refl

pub unlike_false : (s : Bool) → unlike false s ≡ s
unlike_false true = refl
unlike_false false = refl

mul_two_pow : (f : Format) (s : Bool) (m : ℕ) (e : ℤ) (t : ℕ) → mul f (fin s m e) (fin false 1 (pos t)) ≡ round f s (m * up e * 2 ^ t) (down e)
unfolding mul
mul_two_pow f s m e t =
    ap (λ (u : Bool). round f u (m * up e * (1 * 2 ^ t)) (down e * 1)) (times_one s) ∙ ap (λ (z : ℕ). round f s (m * up e * z) (down e * 1)) (one-mul (2 ^ t)) ∙ ap (λ (z : ℕ). round f s (m * up e * 2 ^ t) z) (mul-one (down e))

-- x * 2 ^ t is exact where it does not overflow: 256 is `fin false 1 (pos 8)`
pub mul_pow_exact : (f : Format) (s : Bool) (m : ℕ) (e : ℤ) (t : ℕ) → T (fits f (fin s m e)) → m * up e * 2 ^ t < 2 ^ suc (emax f) * down e
    → HasValue (mul f (fin s m e) (fin false 1 (pos t))) s (m * up e * 2 ^ t) (down e)
mul_pow_exact f s m e t p h = rw (mul_two_pow f s m e t) (round_rep f s (m * up e * 2 ^ t) (down e) (rep_scaled f s m e t p h))

-- x + y for x = a / c and y = b / c, not negative, where (a + b) / c is a value of the format
pub cross_add : (x y u v a b c : ℕ) → x * c ≡ a * u → y * c ≡ b * v → (x * v + y * u) * c ≡ (a + b) * (u * v)
cross_add x y u v a b c h k =
    add-mul (x * v) (y * u) c
    ∙ ap (λ (z : ℕ). z + y * u * c) (mul_right_comm x v c ∙ ap (λ (z : ℕ). z * v) h ∙ mul_assoc a u v)
    ∙ ap (λ (z : ℕ). a * (u * v) + z) (mul_right_comm y u c ∙ ap (λ (z : ℕ). z * u) k ∙ mul_assoc b v u ∙ ap (λ (z : ℕ). b * z) (mul_comm v u))
    ∙ sym (add-mul a b (u * v))

pub add_exact : (f : Format) (x y : Float) (a b c : ℕ) → Rep f (a + b) c → HasValue x false a c → HasValue y false b c → HasValue (add f x y) false (a + b) c
add_exact f x y a b c r h k = by_values (λ x y. HasValue (add f x y) false (a + b) c) false false a c b c by x y h k
  where
    by : (m : ℕ) (e : ℤ) (n : ℕ) (d : ℤ) → m * up e * c ≡ a * down e → n * up d * c ≡ b * down d → HasValue (add f (fin false m e) (fin false n d)) false (a + b) c
    by m e n d h k =
        unfold add sum in
        subst (λ (z : Float). HasValue z false (a + b) c)
        (sym (round_same f false (m * up e * down d + n * up d * down e) (down e * down d) (a + b) c (mul-pos (down_pos e) (down_pos d)) r.below (cross_add (m * up e) (n * up d) (down e) (down d) a b c h k)))
        (round_rep f false (a + b) c r)

pub whole_is : (n : ℕ) → n ≤ 2 ^ 24 → HasValue (of_int binary32 (pos n)) false n 1
unfolding of_int
whole_is n h = round_whole binary32 false n h

-- small whole numbers add exactly
pub add_whole : (a b : ℕ) → a + b ≤ 2 ^ 24 → add binary32 (of_int binary32 (pos a)) (of_int binary32 (pos b)) ≡ of_int binary32 (pos (a + b))
add_whole a b h =
    value_unique binary32 (add binary32 (of_int binary32 (pos a)) (of_int binary32 (pos b))) (of_int binary32 (pos (a + b))) false (a + b) 1 (lit< tt)
    (add-fits binary32 (of_int binary32 (pos a)) (of_int binary32 (pos b)))
    (of_int-fits binary32 (pos (a + b)))
    (add_exact binary32 (of_int binary32 (pos a)) (of_int binary32 (pos b)) a b 1 (rep_down (a + b) 0 h (lit≤ tt)) (whole_is a (le_trans (le-add_right a b) h)) (whole_is b (le_trans (le-add_left b a) h)))
    (whole_is (a + b) h)

-- what fits is below 2 ^ (emax + 1)
pub fits_under : (f : Format) (s : Bool) (m : ℕ) (e : ℤ) → T (fits f (fin s m e)) → m * up e < 2 ^ suc (emax f) * down e
fits_under f s zero e p = lt_of_le_of_lt (le_of_eq (zero-mul (up e))) (mul-pos (pow_pos (suc (emax f))) (down_pos e))
fits_under f s (suc m) e p = fits_high f s m e p

-- what fits is a value of the format
pub fits_rep : (f : Format) (s : Bool) (m : ℕ) (e : ℤ) → T (fits f (fin s m e)) → Rep f (m * up e) (down e)
fits_rep f s m e p =
    let one : m * up e * 1 ≡ m * up e = mul-one (m * up e) in
    subst (λ (z : ℕ). Rep f z (down e)) one (rep_scaled f s m e 0 p (lt_of_le_of_lt (le_of_eq one) (fits_under f s m e p)))

-- a value of the format rounds to itself
pub round_own : (f : Format) (s : Bool) (m : ℕ) (e : ℤ) → T (fits f (fin s m e)) → round f s (m * up e) (down e) ≡ fin s m e
round_own f s m e p = value_unique f (round f s (m * up e) (down e)) (fin s m e) s (m * up e) (down e) (down_pos e) (round-fits f s (m * up e) (down e)) p (round_rep f s (m * up e) (down e) (fits_rep f s m e p)) (refl, refl)

pub round_value : (f : Format) (x : Float) (s : Bool) (a c : ℕ) → 0 < c → T (fits f x) → HasValue x s a c → round f s a c ≡ x
round_value f nan s a c C p h = absurd h
round_value f (inf t) s a c C p h = absurd h
round_value f (fin t m e) s a c C p h =
    round_same f s a c (m * up e) (down e) C (down_pos e) (sym h.1)
    ∙ ap (λ (b : Bool). round f b (m * up e) (down e)) (sym h.0)
    ∙ round_own f t m e p

-- x / 2 ^ (k + 1), before it is rounded
pub mul_two_down : (f : Format) (s : Bool) (m : ℕ) (e : ℤ) (k : ℕ) → mul f (fin s m e) (fin false 1 (negsuc k)) ≡ round f s (m * up e) (down e * 2 ^ suc k)
unfolding mul
mul_two_down f s m e k = ap (λ (u : Bool). round f u (m * up e * 1) (down e * 2 ^ suc k)) (times_one s) ∙ ap (λ (z : ℕ). round f s z (down e * 2 ^ suc k)) (mul-one (m * up e))

-- a product is the rounded product of the values
pub mul_value : (f : Format) (x y : Float) (s t : Bool) (a c b d : ℕ) → 0 < c → 0 < d → HasValue x s a c → HasValue y t b d → mul f x y ≡ round f (unlike s t) (a * b) (c * d)
mul_value f nan y s t a c b d C D h k = absurd h
mul_value f (inf i) y s t a c b d C D h k = absurd h
mul_value f (fin i m e) nan s t a c b d C D h k = absurd k
mul_value f (fin i m e) (inf j) s t a c b d C D h k = absurd k
mul_value f (fin i m e) (fin j n g) s t a c b d C D h k =
    unfold mul in
    (ap₂ (λ (u v : Bool). round f (unlike u v) (m * up e * (n * up g)) (down e * down g)) h.0 k.0
    ∙ round_same f (unlike s t) (m * up e * (n * up g)) (down e * down g) (a * b) (c * d) (mul-pos (down_pos e) (down_pos g)) (mul-pos C D)
    (mul-mul-mul_comm (m * up e) (n * up g) c d ∙ ap₂ ◌*◌ h.1 k.1 ∙ mul-mul-mul_comm a (down e) b (down g)))

-- products: x = a / c and y = b / d, not negative, where a * b / (c * d) is a value of the format
pub mul_exact : (f : Format) (x y : Float) (a c b d : ℕ) → 0 < c → 0 < d → Rep f (a * b) (c * d) → HasValue x false a c → HasValue y false b d → HasValue (mul f x y) false (a * b) (c * d)
mul_exact f x y a c b d C D r h k = rw (mul_value f x y false false a c b d C D h k) (round_rep f false (a * b) (c * d) r)

-- small whole numbers multiply exactly
pub mul_whole : (a b : ℕ) → a ≤ 2 ^ 24 → b ≤ 2 ^ 24 → a * b ≤ 2 ^ 24 → mul binary32 (of_int binary32 (pos a)) (of_int binary32 (pos b)) ≡ of_int binary32 (pos (a * b))
mul_whole a b A B h =
    value_unique binary32 (mul binary32 (of_int binary32 (pos a)) (of_int binary32 (pos b))) (of_int binary32 (pos (a * b))) false (a * b) 1 (lit< tt)
    (mul-fits binary32 (of_int binary32 (pos a)) (of_int binary32 (pos b)))
    (of_int-fits binary32 (pos (a * b)))
    (mul_exact binary32 (of_int binary32 (pos a)) (of_int binary32 (pos b)) a 1 b 1 (lit< tt) (lit< tt) (rep_down (a * b) 0 h (lit≤ tt)) (whole_is a A) (whole_is b B))
    (whole_is (a * b) h)

-- a quotient is the rounded quotient of the values
pub div_value : (f : Format) (x y : Float) (s t : Bool) (a c b d : ℕ) → 0 < c → 0 < b → HasValue x s a c → HasValue y t b d → div f x y ≡ round f (unlike s t) (a * d) (c * b)
unfolding div
div_value f nan y s t a c b d C B h k = absurd h
div_value f (inf i) y s t a c b d C B h k = absurd h
div_value f (fin i m e) nan s t a c b d C B h k = absurd k
div_value f (fin i m e) (inf j) s t a c b d C B h k = absurd k
div_value f (fin i m e) (fin j zero g) s t a c b d C B h k = absurd (lt_irrefl 0 (lt_of_lt_of_le (mul-pos B (down_pos g)) (le_of_eq (sym k.1 ∙ ap (λ (z : ℕ). z * d) (zero-mul (up g)) ∙ zero-mul d))))
div_value f (fin i m e) (fin j (suc n) g) s t a c b d C B h k =
    let x = m * up e in
    let y = suc n * up g in
    rw (eqb-suc-zero n)
    (ap₂ (λ (u v : Bool). round f (unlike u v) (x * down g) (y * down e)) h.0 k.0
    ∙ round_same f (unlike s t) (x * down g) (y * down e) (a * d) (c * b) (mul-pos (mul-pos (omega arith) (up_pos g)) (down_pos e)) (mul-pos C B)
    (mul-mul-mul_comm x (down g) c b ∙ ap₂ ◌*◌ h.1 (mul_comm (down g) b ∙ sym k.1 ∙ mul_comm y d) ∙ mul-mul-mul_comm a (down e) d y ∙ ap (λ (z : ℕ). a * d * z) (mul_comm (down e) y)))

-- ---- 0.5, 1 and small whole numbers
pub half_value : HasValue half false 1 2
unfolding of_bits
half_value = (refl, refl)

pub one_value : HasValue 1f false 1 1
unfolding of_bits
one_value = (refl, refl)

-- a whole number below 2 ^ k
pub whole_within : (n k : ℕ) → k ≤ 24 → n < 2 ^ k → Within (of_int binary32 (pos n)) (2 ^ k) 1
whole_within n k K h =
    within_more (of_int binary32 (pos n)) n 1 (2 ^ k) 1 (lit< tt) (value_within (of_int binary32 (pos n)) false n 1 (whole_is n (le_trans (le_of_lt h) (pow_mono K)))) (omega arith)
