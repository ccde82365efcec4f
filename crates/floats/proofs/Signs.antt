-- Bounds from tests, of differences of values that are not negative, from below, and exact differences. Assumes nothing.
use mathlib.Core.Path.{◌≡◌, refl, sym, ap, ◌∙◌, subst}
use Prim.Native.Nat.{ℕ, zero, suc, ◌-◌, ◌*◌, ◌^◌, ◌≤◌, ◌<◌}
use native.Mathlib.Nat.{lt_irrefl, le_trans, le_of_eq, le_of_lt, lt_of_lt_of_le, zero-mul, mul_comm, mul_assoc, mul_right_comm, mul-pos, mul-le-mul_right, le_of_mul-le-mul_right, mul-sub}
use native.Mathlib.Omega.{arith}
use mathlib.Core.Bool.{Bool, true, false, ◌&&◌, ◌||◌, cond, true≢false}
use lib.Dec.{T, ltb, eqb, ltb→lt, eqb→eq, lit<, lit≤}
use lib.Ieee.Back.{whole_unique}
use lib.Arith.{le→nltb}
use lib.IntN.{ℤ, pos}
use lib.Ieee.{Float, nan, inf, fin, Format, binary32, up, down, round, neg, sum, add, sub, le, mul, unlike}
use lib.Ieee.Fits.{up_pos, down_pos, and_l, of_int-fits, sub-fits}
use lib.Ieee.Bits.{is_false}
use lib.Ieee.Exact.{HasValue}
use lib.Ieee.Order.{round_mono}
use lib.Ieee.Scale.{finite, round_same}
use Rattle.floats.specs.Bound.{Within, UpTo, AtLeast, Rep}
use Rattle.floats.proofs.Within.{Signed, rep_down, round_signed, round_within, or_le, cond_within, le_within}
use Rattle.floats.proofs.Exactly.{round_rep, whole_is}
use Rattle.floats.proofs.Values.{by_values}
use Rattle.floats.specs.F32.{◌⊖◌, f32}

-- ---- from two tests: -y ≤ x ≤ y, y = a / c

-- m * ue / de ≤ n * ud / dd = a / c
cross_bound : (m n e d a c : ℕ) → 0 < d → n * c ≡ a * d → m * d ≤ n * e → m * c ≤ a * e
cross_bound m n e d a c D v l =
    le_of_mul-le-mul_right
    (le_trans (le_of_eq (mul_right_comm m c d)) (le_trans (mul-le-mul_right c l) (le_of_eq (mul_right_comm n e c ∙ ap (λ (z : ℕ). z * e) v ∙ mul_right_comm a d e))))
    D

pub within_of_le : (x y : Float) (a c : ℕ) → 0 < c → HasValue y false a c → T (le x y) → T (le (neg y) x) → Within x a c
within_of_le x nan a c C v h k = absurd v
within_of_le x (inf t) a c C v h k = absurd v
within_of_le x (fin true n d) a c C v h k = absurd (true≢false v.0)
within_of_le nan (fin false n d) a c C v h k = absurd (unfold le in h)
within_of_le (inf true) (fin false n d) a c C v h k = absurd (unfold le neg in k)
within_of_le (inf false) (fin false n d) a c C v h k = absurd (unfold le in h)
within_of_le (fin false m e) (fin false n d) a c C v h k = le_within (fin false m e) (fin false n d) a c C refl v h
within_of_le (fin true m e) (fin false n d) a c C v h k =
    let k' : T (ltb (m * up e * down d) (n * up d * down e) || (eqb (n * up d * down e) (m * up e * down d) && (true || eqb (n * up d * down e) 0))) = unfold le neg in k in
    cross_bound (m * up e) (n * up d) (down e) (down d) a c (down_pos d) v.1 (either (m * up e * down d) (n * up d * down e) (ltb (m * up e * down d) (n * up d * down e)) (ltb→lt (m * up e * down d) (n * up d * down e)) k')
  where
    either : (x y : ℕ) (b : Bool) → (T b → x < y) → T (b || (eqb y x && (true || eqb y 0))) → x ≤ y
    either x y true l t = le_of_lt (l tt)
    either x y false l t = le_of_eq (sym (eqb→eq y x (and_l (eqb y x) (true || eqb y 0) t)))

-- ---- a difference of two values that are not negative is no larger than the larger

-- the difference of two values that are not negative
pub sub_is : (f : Format) (m : ℕ) (e : ℤ) (n : ℕ) (d : ℤ) → sub f (fin false m e) (fin false n d)
    ≡ cond (ltb (m * up e * down d) (n * up d * down e)) (round f true (n * up d * down e - m * up e * down d) (down e * down d)) (round f false (m * up e * down d - n * up d * down e) (down e * down d))
unfolding sub neg add sum
sub_is f m e n d = refl

pub sub_within_max : (f : Format) (x y : Float) (r c : ℕ) → Rep f r c → Signed false x → Signed false y → Within x r c → Within y r c → Within (sub f x y) r c
sub_within_max f nan y r c R s t h k = absurd h
sub_within_max f (inf u) y r c R s t h k = absurd h
sub_within_max f (fin u m e) nan r c R s t h k = absurd k
sub_within_max f (fin u m e) (inf v) r c R s t h k = absurd k
sub_within_max f (fin true m e) (fin v n d) r c R s t h k = absurd (true≢false s)
sub_within_max f (fin false m e) (fin true n d) r c R s t h k = absurd (true≢false t)
sub_within_max f (fin false m e) (fin false n d) r c R s t h k =
    let a : ℕ = m * up e * down d in
    let b : ℕ = n * up d * down e in
    let q : ℕ = down e * down d in
    let Q : 0 < q = mul-pos (down_pos e) (down_pos d) in
    let ha : a * c ≤ r * q = le_trans (le_of_eq (mul_right_comm (m * up e) (down d) c)) (le_trans (mul-le-mul_right (down d) h) (le_of_eq (mul_assoc r (down e) (down d)))) in
    let hb : b * c ≤ r * q = le_trans (le_of_eq (mul_right_comm (n * up d) (down e) c)) (le_trans (mul-le-mul_right (down e) k) (le_of_eq (mul_assoc r (down d) (down e) ∙ ap (λ (z : ℕ). r * z) (mul_comm (down d) (down e))))) in
    subst (λ (z : Float). Within z r c) (sym (sub_is f m e n d))
    (cond_within (ltb a b) (round f true (b - a) q) (round f false (a - b) q) r c
    (round_within f true (b - a) q r c Q R (le_trans (mul-le-mul_right c (less b a)) hb))
    (round_within f false (a - b) q r c Q R (le_trans (mul-le-mul_right c (less a b)) ha)))
  where
    less : (a b : ℕ) → a - b ≤ a
    less a b = omega arith

-- ---- bounds from below

at_least_neg : (x : Float) (a c : ℕ) → AtLeast x a c → AtLeast (neg x) a c
unfolding neg
at_least_neg nan a c h = h
at_least_neg (inf s) a c h = h
at_least_neg (fin s m e) a c h = h

le_at_least : (x y : Float) (a c : ℕ) → 0 < c → Signed false y → T (finite y) → HasValue x false a c → T (le x y) → AtLeast y a c
le_at_least nan y a c C s g v h = absurd v
le_at_least (inf t) y a c C s g v h = absurd v
le_at_least (fin t m e) nan a c C s g v h = absurd s
le_at_least (fin t m e) (inf u) a c C s g v h = absurd g
le_at_least (fin t m e) (fin true n d) a c C s g v h = absurd (true≢false s)
le_at_least (fin true m e) (fin false n d) a c C s g v h = absurd (true≢false v.0)
le_at_least (fin false m e) (fin false n d) a c C s g v h =
    let l : m * up e * down d ≤ n * up d * down e = or_le (m * up e * down d) (n * up d * down e) (true || eqb (m * up e * down d) 0) (unfold le in h) in
    le_of_mul-le-mul_right
    (le_trans (le_of_eq (mul_right_comm a (down d) (down e) ∙ ap (λ (z : ℕ). z * down d) (sym v.1) ∙ mul_right_comm (m * up e) c (down d)))
    (le_trans (mul-le-mul_right c l) (le_of_eq (mul_right_comm (n * up d) (down e) c))))
    (down_pos e)

-- a / c ≤ num / den, a / c a value of the format, and no overflow: the rounded magnitude is at least a / c
pub round_at_least : (f : Format) (num den a c : ℕ) → 0 < den → Rep f a c → a * den ≤ num * c → T (finite (round f false num den)) → AtLeast (round f false num den) a c
round_at_least f num den a c D r h g =
    le_at_least (round f false a c) (round f false num den) a c r.below (round_signed f false num den) g (round_rep f false a c r) (round_mono f a c num den r.below D h)

-- ---- exact differences: x = a / c and y = b / c, b ≤ a

cross_sub : (x y u v a b c : ℕ) → x * c ≡ a * u → y * c ≡ b * v → (x * v - y * u) * c ≡ (a - b) * (u * v)
cross_sub x y u v a b c h k =
    sub_mul (x * v) (y * u) c
    ∙ ap (λ (z : ℕ). z - y * u * c) (mul_right_comm x v c ∙ ap (λ (z : ℕ). z * v) h ∙ mul_assoc a u v)
    ∙ ap (λ (z : ℕ). a * (u * v) - z) (mul_right_comm y u c ∙ ap (λ (z : ℕ). z * u) k ∙ mul_assoc b v u ∙ ap (λ (z : ℕ). b * z) (mul_comm v u))
    ∙ sym (sub_mul a b (u * v))
  where
    sub_mul : (p q n : ℕ) → (p - q) * n ≡ p * n - q * n
    sub_mul p q n = mul_comm (p - q) n ∙ mul-sub n p q ∙ ap (λ (z : ℕ). z - n * q) (mul_comm n p) ∙ ap (λ (z : ℕ). p * n - z) (mul_comm n q)

not_below : (x y u v a b c : ℕ) → 0 < c → x * c ≡ a * u → y * c ≡ b * v → b ≤ a → y * u ≤ x * v
not_below x y u v a b c C h k l =
    le_of_mul-le-mul_right
    (le_trans (le_of_eq (mul_right_comm y u c ∙ ap (λ (z : ℕ). z * u) k ∙ mul_right_comm b v u))
    (le_trans (mul-le-mul_right v (mul-le-mul_right u l)) (le_of_eq (ap (λ (z : ℕ). z * v) (sym h) ∙ mul_right_comm x c v))))
    C

pub sub_exact : (f : Format) (x y : Float) (a b c : ℕ) → b ≤ a → Rep f (a - b) c → HasValue x false a c → HasValue y false b c → HasValue (sub f x y) false (a - b) c
sub_exact f x y a b c l r h k = by_values (λ x y. HasValue (sub f x y) false (a - b) c) false false a c b c by x y h k
  where
    by : (m : ℕ) (e : ℤ) (n : ℕ) (d : ℤ) → m * up e * c ≡ a * down e → n * up d * c ≡ b * down d → HasValue (sub f (fin false m e) (fin false n d)) false (a - b) c
    by m e n d h k =
        let p : ℕ = m * up e * down d in
        let q : ℕ = n * up d * down e in
        let g : ltb p q ≡ false = is_false (ltb p q) (le→nltb p q (not_below (m * up e) (n * up d) (down e) (down d) a b c r.below h k l)) in
        subst (λ (z : Float). HasValue z false (a - b) c)
        (sym (sub_is f m e n d ∙ ap (λ (t : Bool). cond t (round f true (q - p) (down e * down d)) (round f false (p - q) (down e * down d))) g
        ∙ round_same f false (p - q) (down e * down d) (a - b) c (mul-pos (down_pos e) (down_pos d)) r.below (cross_sub (m * up e) (n * up d) (down e) (down d) a b c h k)))
        (round_rep f false (a - b) c r)

-- from 0 ≤ x ≤ y, y = a / c
pub up_to_of_le : (x y : Float) (a c : ℕ) → 0 < c → HasValue y false a c → T (le (fin false 0 (pos 0)) x) → T (le x y) → UpTo x a c
up_to_of_le nan y a c C v h k = absurd (unfold le in h)
up_to_of_le (inf true) y a c C v h k = absurd (unfold le in h)
up_to_of_le (inf false) nan a c C v h k = absurd v
up_to_of_le (inf false) (inf t) a c C v h k = absurd v
up_to_of_le (inf false) (fin t n d) a c C v h k = absurd (unfold le in k)
up_to_of_le (fin false m e) y a c C v h k = le_within (fin false m e) y a c C refl v k
up_to_of_le (fin true m e) y a c C v h k = no_size m e (unfold le in h)
  where
    no_size : (m : ℕ) (e : ℤ) → T (eqb (0 * down e) (m * up e * 1) && eqb (0 * down e) 0) → m ≡ 0
    no_size zero e t = refl
    no_size (suc m) e t = absurd (lt_irrefl 0 (lt_of_lt_of_le (mul-pos (mul-pos (some m) (up_pos e)) (lit< tt)) (le_of_eq (sym (eqb→eq (0 * down e) (suc m * up e * 1) (and_l (eqb (0 * down e) (suc m * up e * 1)) (eqb (0 * down e) 0) t)) ∙ zero-mul (down e)))))
      where
        some : (k : ℕ) → 0 < suc k
        some k = omega arith

-- the sign of a product of finite values
pub mul_signed : (f : Format) (x y : Float) (s t : Bool) (a c b d : ℕ) → HasValue x s a c → Signed t y → Within y b d → Signed (unlike s t) (mul f x y)
unfolding mul
mul_signed f nan y s t a c b d h k w = absurd h
mul_signed f (inf i) y s t a c b d h k w = absurd h
mul_signed f (fin i m e) nan s t a c b d h k w = absurd w
mul_signed f (fin i m e) (inf j) s t a c b d h k w = absurd w
mul_signed f (fin i m e) (fin j n g) s t a c b d h k w = rw (← h.0, ← k) (round_signed f (unlike i j) (m * up e * (n * up g)) (down e * down g))

-- a wider whole bound
pub up_to_more : (x : Float) (a b : ℕ) → a ≤ b → UpTo x a 1 → UpTo x b 1
up_to_more nan a b l u = absurd u
up_to_more (inf s) a b l u = absurd u
up_to_more (fin false m e) a b l u = le_trans u (mul-le-mul_right (down e) l)
up_to_more (fin true m e) a b l u = u

-- small whole numbers subtract exactly
pub sub_whole : (a b : ℕ) → b ≤ a → a ≤ 2 ^ 24 → f32 a ⊖ f32 b ≡ f32 (a - b)
sub_whole a b h k =
    let r : a - b ≤ 2 ^ 24 = omega arith in
    let q : b ≤ 2 ^ 24 = omega arith in
    whole_unique binary32 (f32 a ⊖ f32 b) (f32 (a - b)) false (a - b) (sub-fits binary32 (f32 a) (f32 b)) (of_int-fits binary32 (pos (a - b)))
    (sub_exact binary32 (f32 a) (f32 b) a b 1 h (rep_down (a - b) 0 r (lit≤ tt)) (whole_is a k) (whole_is b q))
    (whole_is (a - b) r)
