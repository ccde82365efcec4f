-- What `round` gives, from where its fraction lies between two halves; and how far it moves a fraction. Assumes nothing.
use mathlib.Core.Path.{◌≡◌, sym, ap, ◌∙◌, subst}
use mathlib.Core.Logic.{inl, inr}
use mathlib.Core.Bool.{Bool, false, not}
use Prim.Native.Nat.{ℕ, suc, ◌+◌, ◌-◌, ◌*◌, ◌/◌, ◌%◌, ◌^◌, ◌≤◌, ◌<◌, compare, Ordering}
use native.Mathlib.Nat.{le_of_lt, le-add_right, eq-or-lt_of_le, mul-one, mul_assoc, mul_comm, mul_right_comm, mul-pos, mul-le-mul_left, mul-lt-mul_of_pos_right, le_trans, le_of_eq, le_antisymm, le_of_suc-le-suc, lt_irrefl, lt_of_lt_of_le, lt_of_not-le, lt_of_mul-lt-mul_right, suc-mul, add-mul, mul-le-mul_right, mod-lt, div-add-mod', le-div_iff_mul-le, div-lt_iff_lt-mul}
use native.Mathlib.Omega.{arith}
use lib.Dec.{T, is_le, compare_is_eq, eqb, leb→le, nleb→lt, eqb→eq, eqb_refl, lit<, lit≤}
use lib.Arith.{lt_of_le-ne}
use lib.Pow.{pow_pos, pow-add, pow_mono}
use lib.Ieee.{Float, Format, binary32, prec, emax, low, size, nearest, units, round}
use lib.Ieee.Digits.{size-lt, size-le}
use lib.Ieee.Fits.{core, round_is}
use lib.Ieee.Exact.{HasValue, units_val}
use lib.Ieee.Nearest.{closest}
use lib.Ieee.Order.{kept, drop}
use lib.Ieee.Scale.{finite, round_same, round_under}
use Rattle.floats.proofs.Within.{within_finite, round_within, rep_up, rep_down}
use Rattle.floats.proofs.Exactly.{value_over, round_rep}

abbrev Cmp : Ordering → ℕ → ℕ → Type 0
Cmp Ordering.lt a b = a < b
Cmp Ordering.eq a b = a ≡ b
Cmp Ordering.gt a b = b < a

cmp : (a b : ℕ) → Cmp (compare a b) a b
cmp a b = go (compare a b) (leb→le a b) (nleb→lt a b) (eqb→eq a b) (λ (e : a ≡ b). subst (λ (x : ℕ). T (eqb a x)) e (eqb_refl a))
  where
    go : (o : Ordering) → (T (is_le o) → a ≤ b) → (T (not (is_le o)) → b < a) → (T (compare_is_eq o) → a ≡ b) → (a ≡ b → T (compare_is_eq o)) → Cmp o a b
    go Ordering.lt h k e n = lt_of_le-ne (h tt) n
    go Ordering.eq h k e n = e tt
    go Ordering.gt h k e n = k tt

-- from the order of two multiples of u
under : (q w u : ℕ) → q * u < w * u + u → q ≤ w
under q w u h = le_of_suc-le-suc (lt_of_mul-lt-mul_right u (lt_of_lt_of_le h (le_of_eq (sym (suc-mul w u)))))

strict : (w q u : ℕ) → w * u < q * u → w < q
strict w q u h = lt_of_mul-lt-mul_right u h

-- n / u is strictly between q - 1/2 and q + 1/2
pub closest_is : (n u q : ℕ) → 0 < u → 2 * (q * u) < 2 * n + u → 2 * n < 2 * (q * u) + u → closest n u ≡ q
closest_is n u q P a b = go (compare (n % u * 2) u) (cmp (n % u * 2) u)
  where
    e : n / u * u + n % u ≡ n
    e = div-add-mod' n u

    r : n % u < u
    r = mod-lt n P

    low_case : n % u * 2 < u → (q * u < n / u * u + u) × (n / u * u < q * u + u)
    low_case h = (omega (arith, e, r), omega (arith, e, r))

    tie_case : n % u * 2 ≡ u → (q * u < n / u * u + u) × (n / u * u < q * u)
    tie_case h = (omega (arith, e, r), omega (arith, e, r))

    high_case : u < n % u * 2 → (q * u < n / u * u + u + u) × (n / u * u < q * u)
    high_case h = (omega (arith, e, r), omega (arith, e, r))

    go : (o : Ordering) → Cmp o (n % u * 2) u → nearest (n / u) o ≡ q
    go Ordering.lt h = le_antisymm (under (n / u) q u (low_case h).1) (under q (n / u) u (low_case h).0)
    go Ordering.eq h = absurd (lt_irrefl (n / u) (lt_of_lt_of_le (strict (n / u) q u (tie_case h).1) (under q (n / u) u (tie_case h).0)))
    go Ordering.gt h = le_antisymm (strict (n / u) q u (high_case h).1) (under q (suc (n / u)) u (lt_of_lt_of_le (high_case h).0 (le_of_eq (ap (λ (z : ℕ). z + u) (sym (suc-mul (n / u) u))))))

-- the nearest whole number is within a half
pub closest_error : (n u : ℕ) → 0 < u → (2 * (closest n u * u) ≤ 2 * n + u) × (2 * n ≤ 2 * (closest n u * u) + u)
closest_error n u P = go (compare (n % u * 2) u) (cmp (n % u * 2) u)
  where
    e : n / u * u + n % u ≡ n
    e = div-add-mod' n u

    r : n % u < u
    r = mod-lt n P

    next : (w : ℕ) → suc w * u ≡ w * u + u
    next w = suc-mul w u

    go : (o : Ordering) → Cmp o (n % u * 2) u → (2 * (nearest (n / u) o * u) ≤ 2 * n + u) × (2 * n ≤ 2 * (nearest (n / u) o * u) + u)
    go Ordering.lt h = (omega (arith, e, r), omega (arith, e, r))
    go Ordering.eq h = tie (n / u % 2) (mod-lt (n / u) {m = 2} (lit< tt))
      where
        tie : (b : ℕ) → b < 2 → (2 * ((n / u + b) * u) ≤ 2 * n + u) × (2 * n ≤ 2 * ((n / u + b) * u) + u)
        tie b k = let x : (n / u + b) * u ≡ n / u * u + b * u = add-mul (n / u) b u in let y : b * u ≤ 1 * u = mul-le-mul_right u (le_of_suc-le-suc k) in (omega (arith, e, r), omega (arith, e, r))
    go Ordering.gt h = (omega (arith, e, r, next (n / u)), omega (arith, e, r, next (n / u)))

size_is : (w p : ℕ) → 0 < p → 2 ^ (p - 1) ≤ w → w < 2 ^ p → size w ≡ p
size_is w p P l h = le_antisymm (size-le w p h) (enough (size w) p P (λ (g : size w ≤ p - 1). lt_irrefl w (lt_of_lt_of_le (lt_of_lt_of_le (size-lt w) (pow_mono g)) l)))
  where
    enough : (z p : ℕ) → 0 < p → (z ≤ p - 1 → ⊥) → p ≤ z
    enough z p P f = last z p P (lt_of_not-le f)
      where
        last : (z p : ℕ) → 0 < p → p - 1 < z → p ≤ z
        last z p P h = omega arith

-- num / den in units of the smallest value has prec + k digits, and is nearest to q * 2 ^ k
pub round_to : (f : Format) (s : Bool) (num den q k : ℕ) → 0 < den → 0 < den * 2 ^ k → 2 ^ (prec f + k - 1) * den ≤ num * 2 ^ low f → num * 2 ^ low f < 2 ^ (prec f + k) * den
    → 2 * (q * (den * 2 ^ k)) < 2 * (num * 2 ^ low f) + den * 2 ^ k → 2 * (num * 2 ^ low f) < 2 * (q * (den * 2 ^ k)) + den * 2 ^ k
    → q * 2 ^ k < 2 ^ (low f + suc (emax f)) → 0 < prec f + k → HasValue (round f s num den) s (q * 2 ^ k) (2 ^ low f)
round_to f s num den q k D U lo hi a b o P =
    let n = num * 2 ^ low f in
    let z : size (n / den) - prec f ≡ k =
    ap (λ (x : ℕ). x - prec f) (size_is (n / den) (prec f + k) P ((le-div_iff_mul-le D).1 lo) ((div-lt_iff_lt-mul D).1 hi)) ∙ cut (prec f) k in
    subst (λ (x : Float). HasValue x s (q * 2 ^ k) (2 ^ low f))
    (sym (round_is f s num den ∙ ap (λ (j : ℕ). core f s n den j) z ∙ ap (λ (x : ℕ). units f s x k) (closest_is n (den * 2 ^ k) q U a b)))
    (units_val f s q k o)
  where
    cut : (p k : ℕ) → p + k - p ≡ k
    cut p k = omega arith

-- ---- what rounding a fraction up to 2 ^ k does: it moves it by 2 ^ (k - 25) at most. In units of 2 ^ -149 that is 2 ^ (124 + k)

abbrev pub unit : ℕ
unit = 2 ^ 149

pub record RoundedTo (s : Bool) (num den w : ℕ) : Type 0 where
  pub h : ℕ
  pub value : HasValue (round binary32 s num den) s h unit
  pub under : h * den ≤ num * unit + w * den
  pub over : num * unit ≤ h * den + w * den

-- from twice the error
halve : (x y u w : ℕ) → 2 * x ≤ 2 * y + u → u ≤ 2 * w → x ≤ y + w
halve x y u w h k = omega arith

rounded_below : (s : Bool) (num den k : ℕ) → 0 < den → k ≤ 24 → num < den * 2 ^ k → RoundedTo s num den (2 ^ (124 + k))
rounded_below s num den k D K h =
    let n = num * unit in
    let j = drop 24 n den in
    let q = kept 24 n den in
    let u = den * 2 ^ j in
    let e = closest_error n u (mul-pos D (pow_pos j)) in
    let t : n < 2 ^ (149 + k) * den = lt_of_lt_of_le (mul-lt-mul_of_pos_right h (pow_pos 149)) (le_of_eq (ap (λ (x : ℕ). x * unit) (mul_comm den (2 ^ k)) ∙ mul_right_comm (2 ^ k) den unit ∙ ap (λ (x : ℕ). x * den) (mul_comm (2 ^ k) unit ∙ sym (pow-add 2 149 k)))) in
    let z : j ≤ 125 + k = less (size (n / den)) k (size-le (n / den) (149 + k) ((div-lt_iff_lt-mul D).1 t)) in
    let w : u ≤ 2 * (2 ^ (124 + k) * den) = le_trans (mul-le-mul_left den (pow_mono z)) (le_of_eq (twice k)) in
    let c : q * 2 ^ j * den ≡ q * u = mul_assoc q (2 ^ j) den ∙ ap (λ (x : ℕ). q * x) (mul_comm (2 ^ j) den) in
    let f : T (finite (round binary32 false num den)) = within_finite (round binary32 false num den) (1 * 2 ^ 24) 1 (round_within binary32 false num den (1 * 2 ^ 24) 1 D (rep_up 1 24 (lit≤ tt) (lit≤ tt)) (le_trans (le_of_eq (mul-one num)) (le_trans (le_of_lt h) (le_trans (mul-le-mul_left den (pow_mono K)) (le_of_eq (mul_comm den (2 ^ 24))))))) in
    record {
      h = q * 2 ^ j;
      value = subst (λ (x : Float). HasValue x s (q * 2 ^ j) unit) (sym (round_is binary32 s num den)) (units_val binary32 s q j (round_under binary32 num den f));
      under = le_trans (le_of_eq c) (halve (q * u) n u (2 ^ (124 + k) * den) e.0 w);
      over = le_trans (halve n (q * u) u (2 ^ (124 + k) * den) e.1 w) (le_of_eq (ap (λ (x : ℕ). x + 2 ^ (124 + k) * den) (sym c)));
    }
  where
    less : (z k : ℕ) → z ≤ 149 + k → z - 24 ≤ 125 + k
    less z k h = omega arith

    twice : (k : ℕ) → den * 2 ^ (125 + k) ≡ 2 * (2 ^ (124 + k) * den)
    twice k = mul_comm den (2 ^ (125 + k)) ∙ ap (λ (x : ℕ). x * den) (ap (λ (x : ℕ). 2 ^ x) (next k) ∙ pow-add 2 1 (124 + k)) ∙ mul_assoc 2 (2 ^ (124 + k)) den
      where
        next : (k : ℕ) → 125 + k ≡ 1 + (124 + k)
        next k = omega arith

-- a power of two is a value of the format, and does not move
rounded_at : (s : Bool) (num den k : ℕ) → 0 < den → k ≤ 24 → num ≡ den * 2 ^ k → RoundedTo s num den (2 ^ (124 + k))
rounded_at s num den k D K e =
    let same : num * 1 ≡ 2 ^ k * den = mul-one num ∙ e ∙ mul_comm den (2 ^ k) in
    let v : HasValue (round binary32 s (2 ^ k) 1) s (2 ^ k) 1 = round_rep binary32 s (2 ^ k) 1 (rep_down (2 ^ k) 0 (pow_mono {j = 24} K) (lit≤ tt)) in
    let w : num * unit ≡ 2 ^ k * unit * den = ap (λ (z : ℕ). z * unit) (e ∙ mul_comm den (2 ^ k)) ∙ mul_right_comm (2 ^ k) den unit in
    record {
      h = 2 ^ k * unit;
      value = subst (λ (x : Float). HasValue x s (2 ^ k * unit) unit) (sym (round_same binary32 s num den (2 ^ k) 1 D (lit< tt) same)) (value_over (round binary32 s (2 ^ k) 1) s (2 ^ k) unit v);
      under = le_trans (le_of_eq (sym w)) (le-add_right (num * unit) (2 ^ (124 + k) * den));
      over = le_trans (le_of_eq w) (le-add_right (2 ^ k * unit * den) (2 ^ (124 + k) * den));
    }

pub rounded_to : (s : Bool) (num den k : ℕ) → 0 < den → k ≤ 24 → num ≤ den * 2 ^ k → RoundedTo s num den (2 ^ (124 + k))
rounded_to s num den k D K h = elim (eq-or-lt_of_le h) [ inl e ↦ rounded_at s num den k D K e | inr l ↦ rounded_below s num den k D K l ]
