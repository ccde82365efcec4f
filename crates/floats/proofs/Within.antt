-- A rounded result is within every bound that the exact result is within, if the bound is a value of the format: rounding keeps the order. Assumes nothing.
use mathlib.Core.Path.{◌≡◌, refl, sym, ap, ◌∙◌, subst}
use mathlib.Core.Logic.{◌⊎◌, inl, inr}
use Prim.Native.Nat.{ℕ, zero, suc, ◌+◌, ◌-◌, ◌*◌, ◌^◌, ◌≤◌, ◌<◌}
use native.Mathlib.Nat.{one-mul, lt_irrefl, le_trans, le_of_eq, le_of_lt, lt_of_lt_of_le, eq-or-lt_of_le, zero-mul, mul-one, mul_comm, mul_assoc, mul_right_comm, mul-pos, mul-le-mul, mul-le-mul_right, le_of_mul-le-mul_right, add-mul, add-le-add, mul-mul-mul_comm, suc-mul, pow-succ'}
use native.Mathlib.Omega.{arith}
use mathlib.Core.Bool.{Bool, true, false, ◌&&◌, ◌||◌, beq, cond, true≢false}
use lib.Dec.{T, ltb, eqb, ltb→lt, eqb→eq, lit<, lit≤}
use lib.Pow.{pow_pos, pow-add, pow_mono, shl_lt}
use lib.Ieee.{Float, nan, inf, fin, Format, binary32, prec, emax, low, up, down, unlike, odd, units, round, neg, sum, add, sub, mul, div, le}
use lib.Ieee.Fits.{down_pos, and_l, round_is}
use lib.Ieee.Exact.{HasValue, round_exact}
use lib.Ieee.Order.{round_mono, kept, drop}
use lib.Ieee.Scale.{finite}
use Rattle.floats.specs.Bound.{Within, AtLeast, Rep}

-- ---- the sign of a rounded value

abbrev pub Signed : Bool → Float → Type 0
Signed s nan = ⊥
Signed s (inf t) = t ≡ s
Signed s (fin t m e) = t ≡ s

odd_signed : (d : ℕ) (s : Bool) (q k l : ℕ) → Signed s (odd d s q k l)
unfolding odd
odd_signed d s zero k l = refl
odd_signed d s (suc q) k l = refl

units_signed : (f : Format) (s : Bool) (q k : ℕ) → Signed s (units f s q k)
unfolding units
units_signed f s q k = go (ltb (q * 2 ^ k) (2 ^ (low f + suc (emax f))))
  where
    go : (b : Bool) → Signed s (cond b (odd (suc (prec f)) s q k (low f)) (inf s))
    go true = odd_signed (suc (prec f)) s q k (low f)
    go false = refl

pub round_signed : (f : Format) (s : Bool) (num den : ℕ) → Signed s (round f s num den)
round_signed f s num den = rw (round_is f s num den) (units_signed f s (kept (prec f) (num * 2 ^ low f) den) (drop (prec f) (num * 2 ^ low f) den))

odd_neg : (d q k l : ℕ) → odd d true q k l ≡ neg (odd d false q k l)
unfolding odd neg
odd_neg d zero k l = refl
odd_neg d (suc q) k l = refl

units_neg : (f : Format) (q k : ℕ) → units f true q k ≡ neg (units f false q k)
unfolding units neg
units_neg f q k = go (ltb (q * 2 ^ k) (2 ^ (low f + suc (emax f))))
  where
    go : (b : Bool) → cond b (odd (suc (prec f)) true q k (low f)) (inf true) ≡ neg (cond b (odd (suc (prec f)) false q k (low f)) (inf false))
    go true = odd_neg (suc (prec f)) q k (low f)
    go false = refl

pub round_neg : (f : Format) (num den : ℕ) → round f true num den ≡ neg (round f false num den)
round_neg f num den =
    round_is f true num den ∙ units_neg f (kept (prec f) (num * 2 ^ low f) den) (drop (prec f) (num * 2 ^ low f) den) ∙ ap neg (sym (round_is f false num den))

-- ---- bounds

pub within_neg : (x : Float) (a c : ℕ) → Within x a c → Within (neg x) a c
unfolding neg
within_neg nan a c h = h
within_neg (inf s) a c h = h
within_neg (fin s m e) a c h = h

pub within_finite : (x : Float) (a c : ℕ) → Within x a c → T (finite x)
within_finite nan a c w = absurd w
within_finite (inf s) a c w = absurd w
within_finite (fin s m e) a c w = tt

-- a / c ≤ a' / c'
pub within_more : (x : Float) (a c a' c' : ℕ) → 0 < c → Within x a c → a * c' ≤ a' * c → Within x a' c'
within_more nan a c a' c' C h k = h
within_more (inf s) a c a' c' C h k = h
within_more (fin s m e) a c a' c' C h k =
    le_of_mul-le-mul_right
    (le_trans (le_of_eq (mul_right_comm (m * up e) c' c))
    (le_trans (mul-le-mul_right c' h)
    (le_trans (le_of_eq (mul_right_comm a (down e) c'))
    (le_trans (mul-le-mul_right (down e) k) (le_of_eq (mul_right_comm a' c (down e)))))))
    C

pub or_le : (a b : ℕ) (r : Bool) → T (ltb a b || (eqb a b && r)) → a ≤ b
or_le a b r t = go (ltb a b) (ltb→lt a b) t
  where
    go : (l : Bool) → (T l → a < b) → T (l || (eqb a b && r)) → a ≤ b
    go true h t = le_of_lt (h tt)
    go false h t = le_of_eq (eqb→eq a b (and_l (eqb a b) r t))

pub le_within : (x y : Float) (a c : ℕ) → 0 < c → Signed false x → HasValue y false a c → T (le x y) → Within x a c
le_within nan y a c C s v h = absurd s
le_within (inf t) nan a c C s v h = absurd v
le_within (inf t) (inf u) a c C s v h = absurd v
le_within (inf true) (fin u n d) a c C s v h = absurd (true≢false s)
le_within (inf false) (fin u n d) a c C s v h = absurd (unfold le in h)
le_within (fin t m e) nan a c C s v h = absurd v
le_within (fin t m e) (inf u) a c C s v h = absurd v
le_within (fin true m e) (fin u n d) a c C s v h = absurd (true≢false s)
le_within (fin false m e) (fin true n d) a c C s v h = absurd (true≢false v.0)
le_within (fin false m e) (fin false n d) a c C s v h =
    let l : m * up e * down d ≤ n * up d * down e = or_le (m * up e * down d) (n * up d * down e) (true || eqb (m * up e * down d) 0) (unfold le in h) in
    le_of_mul-le-mul_right
    (le_trans (le_of_eq (mul_right_comm (m * up e) c (down d)))
    (le_trans (mul-le-mul_right c l)
    (le_of_eq (mul_right_comm (n * up d) (down e) c ∙ ap (λ (z : ℕ). z * down e) v.1 ∙ mul_right_comm a (down d) (down e)))))
    (down_pos d)

round_within_pos : (f : Format) (num den a c : ℕ) → 0 < den → Rep f a c → num * c ≤ a * den → Within (round f false num den) a c
round_within_pos f num den a c D r h =
    le_within (round f false num den) (round f false a c) a c r.below (round_signed f false num den)
    (round_exact f false a c r.q r.j r.below r.few r.small r.is)
    (round_mono f num den a c D r.below h)

-- THE LAW: num / den ≤ a / c, and a / c is a value of the format: then the rounded magnitude is at most a / c too
pub round_within : (f : Format) (s : Bool) (num den a c : ℕ) → 0 < den → Rep f a c → num * c ≤ a * den → Within (round f s num den) a c
round_within f false num den a c D r h = round_within_pos f num den a c D r h
round_within f true num den a c D r h = subst (λ (z : Float). Within z a c) (sym (round_neg f num den)) (within_neg (round f false num den) a c (round_within_pos f num den a c D r h))

-- ---- sums: |x| ≤ a / c and |y| ≤ b / c

pub cond_within : (b : Bool) (x y : Float) (a c : ℕ) → Within x a c → Within y a c → Within (cond b x y) a c
cond_within true x y a c h k = h
cond_within false x y a c h k = k

sub_under : (a b : ℕ) → b - a ≤ a + b
sub_under a b = omega arith

sub_under' : (a b : ℕ) → a - b ≤ a + b
sub_under' a b = omega arith

sum_within : (f : Format) (s : Bool) (x : ℕ) (t : Bool) (y d a c : ℕ) → 0 < d → Rep f a c → (x + y) * c ≤ a * d → Within (sum f s x t y d) a c
unfolding sum
sum_within f s x t y d a c D r h =
    cond_within (beq s t) (round f s (x + y) d) (cond (ltb x y) (round f t (y - x) d) (round f (s && ltb y x) (x - y) d)) a c
    (round_within f s (x + y) d a c D r h)
    (cond_within (ltb x y) (round f t (y - x) d) (round f (s && ltb y x) (x - y) d) a c
    (round_within f t (y - x) d a c D r (le_trans (mul-le-mul_right c (sub_under x y)) h))
    (round_within f (s && ltb y x) (x - y) d a c D r (le_trans (mul-le-mul_right c (sub_under' x y)) h)))

-- x * c ≤ a * d and y * c ≤ b * e over the denominator d * e
pub add_cross : (x y d e a b c : ℕ) → x * c ≤ a * d → y * c ≤ b * e → (x * e + y * d) * c ≤ (a + b) * (d * e)
add_cross x y d e a b c h k =
    le_trans (le_of_eq (add-mul (x * e) (y * d) c))
    (le_trans
    (add-le-add
    (le_trans (le_of_eq (mul_right_comm x e c)) (le_trans (mul-le-mul_right e h) (le_of_eq (mul_assoc a d e))))
    (le_trans (le_of_eq (mul_right_comm y d c)) (le_trans (mul-le-mul_right d k) (le_of_eq (mul_assoc b e d ∙ ap (λ (z : ℕ). b * z) (mul_comm e d))))))
    (le_of_eq (sym (add-mul a b (d * e)))))

pub add_within : (f : Format) (x y : Float) (a b c : ℕ) → Rep f (a + b) c → Within x a c → Within y b c → Within (add f x y) (a + b) c
add_within f nan y a b c r h k = absurd h
add_within f (inf s) y a b c r h k = absurd h
add_within f (fin s m e) nan a b c r h k = absurd k
add_within f (fin s m e) (inf t) a b c r h k = absurd k
add_within f (fin s m e) (fin t n d) a b c r h k =
    unfold add in
    sum_within f s (m * up e * down d) t (n * up d * down e) (down e * down d) (a + b) c (mul-pos (down_pos e) (down_pos d)) r
    (add_cross (m * up e) (n * up d) (down e) (down d) a b c h k)

pub sub_within : (f : Format) (x y : Float) (a b c : ℕ) → Rep f (a + b) c → Within x a c → Within y b c → Within (sub f x y) (a + b) c
unfolding sub
sub_within f x y a b c r h k = add_within f x (neg y) a b c r h (within_neg y b c k)

-- ---- products: |x| ≤ a / c and |y| ≤ b / d, to any bound p / q of the format that a * b / (c * d) is within

pub mul_cross : (x y u v a b c d : ℕ) → x * c ≤ a * u → y * d ≤ b * v → x * y * (c * d) ≤ a * b * (u * v)
mul_cross x y u v a b c d h k = le_trans (le_of_eq (mul-mul-mul_comm x y c d)) (le_trans (mul-le-mul h k) (le_of_eq (mul-mul-mul_comm a u b v)))

-- x / y ≤ z / w ≤ p / q
pub chain : (x y z w p q : ℕ) → 0 < w → x * w ≤ z * y → z * q ≤ p * w → x * q ≤ p * y
chain x y z w p q W h k =
    le_of_mul-le-mul_right
    (le_trans (le_of_eq (mul_right_comm x q w))
    (le_trans (mul-le-mul_right q h)
    (le_trans (le_of_eq (mul_right_comm z y q))
    (le_trans (mul-le-mul_right y k) (le_of_eq (mul_right_comm p w y))))))
    W

pub mul_within : (f : Format) (x y : Float) (a c b d p q : ℕ) → 0 < c → 0 < d → Rep f p q → a * b * q ≤ p * (c * d) → Within x a c → Within y b d → Within (mul f x y) p q
mul_within f nan y a c b d p q C D r l h k = absurd h
mul_within f (inf s) y a c b d p q C D r l h k = absurd h
mul_within f (fin s m e) nan a c b d p q C D r l h k = absurd k
mul_within f (fin s m e) (inf t) a c b d p q C D r l h k = absurd k
mul_within f (fin s m e) (fin t n g) a c b d p q C D r l h k =
    unfold mul in
    round_within f (unlike s t) (m * up e * (n * up g)) (down e * down g) p q (mul-pos (down_pos e) (down_pos g)) r
    (chain (m * up e * (n * up g)) (down e * down g) (a * b) (c * d) p q (mul-pos C D) (mul_cross (m * up e) (n * up g) (down e) (down g) a b c d h k) l)

-- ---- quotients: |x| ≤ a / c and b / d ≤ |y|, with b above 0

div_nonzero : (f : Format) (s t : Bool) (m n x y a c : ℕ) → (n ≡ 0 → ⊥) → Within (round f (unlike s t) x y) a c
    → Within (cond (eqb n 0) (cond (eqb m 0) nan (inf (unlike s t))) (round f (unlike s t) x y)) a c
div_nonzero f s t m n x y a c z h = go (eqb n 0) (λ (e : T (eqb n 0)). z (eqb→eq n 0 e))
  where
    go : (b : Bool) → (T b → ⊥) → Within (cond b (cond (eqb m 0) nan (inf (unlike s t))) (round f (unlike s t) x y)) a c
    go true k = absurd (k tt)
    go false k = h

pos_of : (n u b v d : ℕ) → 0 < b → 0 < v → b * v ≤ n * u * d → n ≡ 0 → ⊥
pos_of n u b v d B G h e = lt_irrefl 0 (lt_of_lt_of_le (mul-pos B G) (le_trans h (le_of_eq (ap (λ (z : ℕ). z * u * d) e ∙ ap (λ (z : ℕ). z * d) (zero-mul u) ∙ zero-mul d))))

num_pos : (n b v d : ℕ) → 0 < b → 0 < v → b * v ≤ n * d → 0 < n
num_pos zero b v d B G h = absurd (lt_irrefl 0 (lt_of_lt_of_le (mul-pos B G) (le_trans h (le_of_eq (zero-mul d)))))
num_pos (suc n) b v d B G h = suc_pos n
  where
    suc_pos : (k : ℕ) → 0 < suc k
    suc_pos k = omega arith

-- (x / u) / (y / v) ≤ (a / c) / (b / d): x * v * (c * b) ≤ a * d * (y * u), from x * c ≤ a * u and b * v ≤ y * d
div_cross : (x y u v a b c d : ℕ) → x * c ≤ a * u → b * v ≤ y * d → x * v * (c * b) ≤ a * d * (y * u)
div_cross x y u v a b c d h k =
    le_trans (le_of_eq (ap (λ (z : ℕ). x * v * z) (mul_comm c b) ∙ mul_assoc x v (b * c) ∙ ap (λ (z : ℕ). x * z) (sym (mul_assoc v b c) ∙ mul_comm (v * b) c) ∙ sym (mul_assoc x c (v * b)) ∙ ap (λ (z : ℕ). x * c * z) (mul_comm v b)))
    (le_trans (mul-le-mul h k) (le_of_eq (ap (λ (z : ℕ). a * u * z) (mul_comm y d) ∙ mul-mul-mul_comm a u d y ∙ ap (λ (z : ℕ). a * d * z) (mul_comm u y))))

pub div_within : (f : Format) (x y : Float) (a c b d p q : ℕ) → 0 < c → 0 < b → Rep f p q → a * d * q ≤ p * (c * b) → Within x a c → AtLeast y b d → Within (div f x y) p q
div_within f nan y a c b d p q C B r l h k = absurd h
div_within f (inf s) y a c b d p q C B r l h k = absurd h
div_within f (fin s m e) nan a c b d p q C B r l h k = absurd k
div_within f (fin s m e) (inf t) a c b d p q C B r l h k = absurd k
div_within f (fin s m e) (fin t n g) a c b d p q C B r l h k =
    unfold div in
    div_nonzero f s t m n (m * up e * down g) (n * up g * down e) p q (pos_of n (up g) b (down g) d B (down_pos g) k)
    (round_within f (unlike s t) (m * up e * down g) (n * up g * down e) p q (mul-pos (num_pos (n * up g) b (down g) d B (down_pos g) k) (down_pos e)) r
    (chain (m * up e * down g) (n * up g * down e) (a * d) (c * b) p q (mul-pos C B) (div_cross (m * up e) (n * up g) (down e) (down g) a b c d h k) l))

-- ---- which bounds are values of binary32: n / 2 ^ k and n * 2 ^ k, for n up to 2 ^ 24

pub whole_pow : (n k l : ℕ) → k ≤ l → n * 2 ^ l ≡ n * 2 ^ (l - k) * 2 ^ k
whole_pow n k l h =
    ap (λ (z : ℕ). n * 2 ^ z) (sym (back l k h)) ∙ ap (λ (z : ℕ). n * z) (pow-add 2 (l - k) k) ∙ sym (mul_assoc n (2 ^ (l - k)) (2 ^ k))
  where
    back : (a b : ℕ) → b ≤ a → a - b + b ≡ a
    back a b h = omega arith

under_top : (n j t : ℕ) → n < 2 ^ 24 → 24 + j ≤ t → n * 2 ^ j < 2 ^ t
under_top n j t h k = lt_of_lt_of_le (shl_lt 24 j h) (pow_mono k)

rep_below : (n k : ℕ) → n < 2 ^ 24 → k ≤ 149 → Rep binary32 n (2 ^ k)
rep_below n k h K = record {
  q = n;
  j = 149 - k;
  below = pow_pos k;
  few = h;
  small = under_top n (149 - k) 277 h (room k);
  is = whole_pow n k 149 K;
}
  where
    room : (k : ℕ) → 24 + (149 - k) ≤ 277
    room k = omega arith

rep_at : (k : ℕ) → k ≤ 149 → Rep binary32 (2 ^ 24) (2 ^ k)
rep_at k K = record {
  q = 2 ^ 23;
  j = suc (149 - k);
  below = pow_pos k;
  few = lit< tt;
  small = under_top (2 ^ 23) (suc (149 - k)) 277 (lit< tt) (room k);
  is = whole_pow (2 ^ 24) k 149 K ∙ ap (λ (z : ℕ). z * 2 ^ k) (sym (ap (λ (z : ℕ). 2 ^ 23 * z) (pow-succ' 2 (149 - k)) ∙ sym (mul_assoc (2 ^ 23) 2 (2 ^ (149 - k)))));
}
  where
    room : (k : ℕ) → 24 + suc (149 - k) ≤ 277
    room k = omega arith

pub rep_down : (n k : ℕ) → n ≤ 2 ^ 24 → k ≤ 149 → Rep binary32 n (2 ^ k)
rep_down n k h K = go (eq-or-lt_of_le h)
  where
    go : (n ≡ 2 ^ 24) ⊎ (n < 2 ^ 24) → Rep binary32 n (2 ^ k)
    go (inl e) = subst (λ (z : ℕ). Rep binary32 z (2 ^ k)) (sym e) (rep_at k K)
    go (inr l) = rep_below n k l K

rep_up_below : (n k : ℕ) → n < 2 ^ 24 → k ≤ 104 → Rep binary32 (n * 2 ^ k) 1
rep_up_below n k h K = record {
  q = n;
  j = k + 149;
  below = lit< tt;
  few = h;
  small = under_top n (k + 149) 277 h (room k K);
  is = mul_assoc n (2 ^ k) (2 ^ 149) ∙ ap (λ (z : ℕ). n * z) (sym (pow-add 2 k 149)) ∙ sym (mul-one (n * 2 ^ (k + 149)));
}
  where
    room : (k : ℕ) → k ≤ 104 → 24 + (k + 149) ≤ 277
    room k h = omega arith

-- n * 2 ^ k for n up to 2 ^ 24 and k up to 103, so that it is below 2 ^ 128
pub rep_up : (n k : ℕ) → n ≤ 2 ^ 24 → k ≤ 103 → Rep binary32 (n * 2 ^ k) 1
rep_up n k h K = go (eq-or-lt_of_le h)
  where
    next : (k : ℕ) → k ≤ 103 → k + 1 ≤ 104
    next k h = omega arith

    same : (k : ℕ) → 2 ^ 23 * 2 ^ (k + 1) ≡ 2 ^ 24 * 2 ^ k
    same k = ap (λ (z : ℕ). 2 ^ 23 * z) (pow-add 2 k 1 ∙ mul_comm (2 ^ k) 2) ∙ sym (mul_assoc (2 ^ 23) 2 (2 ^ k))

    more : (k : ℕ) → k ≤ 103 → k ≤ 104
    more k h = omega arith

    go : (n ≡ 2 ^ 24) ⊎ (n < 2 ^ 24) → Rep binary32 (n * 2 ^ k) 1
    go (inl e) = subst (λ (z : ℕ). Rep binary32 (z * 2 ^ k) 1) (sym e) (subst (λ (z : ℕ). Rep binary32 z 1) (same k) (rep_up_below (2 ^ 23) (k + 1) (lit< tt) (next k K)))
    go (inr l) = rep_up_below n k l (more k K)

-- ---- the running sum: i terms within 1 / 2 ^ k each, or 2 ^ k each, sum to at most i times that, for i up to 2 ^ 24

-- one more term: |t| ≤ i / 2 ^ k and |x| ≤ 1 / 2 ^ k
pub one_more : (t x : Float) (i k : ℕ) → i + 1 ≤ 2 ^ 24 → k ≤ 149 → Within t i (2 ^ k) → Within x 1 (2 ^ k) → Within (add binary32 t x) (i + 1) (2 ^ k)
one_more t x i k h K p q = add_within binary32 t x i 1 (2 ^ k) (rep_down (i + 1) k h K) p q

-- the same with terms up to any M of the form u / 2 ^ k where (i + 1) * u ≤ 2 ^ 24
pub more : (t x : Float) (n u k : ℕ) → n + u ≤ 2 ^ 24 → k ≤ 149 → Within t n (2 ^ k) → Within x u (2 ^ k) → Within (add binary32 t x) (n + u) (2 ^ k)
more t x n u k h K p q = add_within binary32 t x n u (2 ^ k) (rep_down (n + u) k h K) p q

-- any term bound u / c whose multiples up to N are values of the format
module _ (f : Format) (u c N : ℕ) (rep : (n : ℕ) → n ≤ N → Rep f (n * u) c) where
  pub step_within : (t x : Float) (i : ℕ) → suc i ≤ N → Within t (i * u) c → Within x u c → Within (add f t x) (suc i * u) c
  step_within t x i h p q = subst (λ (n : ℕ). Within (add f t x) n c) (sym (suc-mul i u)) (add_within f t x (i * u) u c (subst (λ (n : ℕ). Rep f n c) (suc-mul i u) (rep (suc i) h)) p q)

-- terms up to 2 ^ k, k up to 103: i of them are at most i * 2 ^ k, for i up to 2 ^ 24
pub sum_step : (k : ℕ) → k ≤ 103 → (t x : Float) (i : ℕ) → suc i ≤ 2 ^ 24 → Within t (i * 2 ^ k) 1 → Within x (2 ^ k) 1 → Within (add binary32 t x) (suc i * 2 ^ k) 1
sum_step k K = step_within binary32 (2 ^ k) 1 (2 ^ 24) (λ n h. rep_up n k h K)

-- ---- powers of two as bounds
pub rep_pow : (k : ℕ) → k ≤ 103 → Rep binary32 (2 ^ k) 1
rep_pow k K = rw (one-mul (2 ^ k)) at (rep_up 1 k (lit≤ tt) K)

-- a number times one of size at most 1
pub scaled_within : (k : ℕ) → k ≤ 103 → (x y : Float) → Within x (2 ^ k) 1 → Within y 1 1 → Within (mul binary32 x y) (2 ^ k) 1
scaled_within k K x y h g = mul_within binary32 x y (2 ^ k) 1 1 1 (2 ^ k) 1 (lit< tt) (lit< tt) (rep_pow k K) (omega arith) h g
