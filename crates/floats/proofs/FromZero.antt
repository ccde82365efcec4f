-- Values from +0 to a bound: squares and their sums. And bounds from below: of a value that is not at most another, and of a product. Assumes nothing.
use mathlib.Core.Path.{◌≡◌, refl, sym, ◌∙◌}
use mathlib.Core.Bool.{Bool, true, false, ◌||◌, true≢false}
use Prim.Native.Nat.{ℕ, ◌+◌, ◌*◌, ◌^◌, ◌≤◌, ◌<◌}
use native.Mathlib.Nat.{le_trans, le_of_eq, mul-pos, mul-le-mul, mul-mul-mul_comm}
use native.Mathlib.Omega.{arith}
use borrow.Author.Tests.{ltb-false}
use lib.Dec.{T, lit<}
use lib.Pow.{pow-add}
use lib.Ieee.{Float, nan, inf, fin, binary32, up, down, sum, add, mul, lt, eq, le, of_bits}
use lib.Ieee.Fits.{down_pos}
use lib.Ieee.Exact.{HasValue}
use lib.Ieee.Scale.{finite}
use Rattle.lists.specs.Marked.{count_marked}
use Rattle.lists.proofs.Fold.{over_counted}
use Rattle.floats.specs.Bound.{Within, AtLeast, Rep}
use Rattle.floats.specs.F32.{◌⊕◌, ◌⊗◌, 0f}
use Rattle.floats.specs.Sums.{sum_over}
use Rattle.floats.proofs.Within.{Signed, round_signed, mul_within, chain, sum_step, rep_pow}
use Rattle.floats.proofs.Signs.{round_at_least}
use Rattle.floats.proofs.Tests.{lt_values}

-- finite, with the sign's bit clear, and at most a / c
abbrev pub FromZero : Float → ℕ → ℕ → Type 0
FromZero x a c = Signed false x × Within x a c

-- ---- squares

square_signed : (x : Float) (a c : ℕ) → Within x a c → Signed false (x ⊗ x)
unfolding mul
square_signed nan a c h = absurd h
square_signed (inf s) a c h = absurd h
square_signed (fin true m e) a c h = round_signed binary32 false (m * up e * (m * up e)) (down e * down e)
square_signed (fin false m e) a c h = round_signed binary32 false (m * up e * (m * up e)) (down e * down e)

pub square_from_zero : (k : ℕ) → k ≤ 51 → (x : Float) → Within x (2 ^ k) 1 → FromZero (x ⊗ x) (2 ^ (k + k)) 1
square_from_zero k K x h = (
  square_signed x (2 ^ k) 1 h,
  mul_within binary32 x x (2 ^ k) 1 (2 ^ k) 1 (2 ^ (k + k)) 1 (lit< tt) (lit< tt) (rep_pow (k + k) (omega arith)) (omega (arith, pow-add 2 k k)) h h,
)

-- ---- sums

add_signed : (x y : Float) → Signed false x → Signed false y → Signed false (x ⊕ y)
unfolding add sum
add_signed nan y s t = absurd s
add_signed (inf u) nan s t = absurd t
add_signed (inf true) (inf v) s t = absurd (true≢false s)
add_signed (inf false) (inf true) s t = absurd (true≢false t)
add_signed (inf false) (inf false) s t = refl
add_signed (inf u) (fin v n d) s t = s
add_signed (fin u m e) nan s t = absurd t
add_signed (fin u m e) (inf v) s t = t
add_signed (fin true m e) (fin v n d) s t = absurd (true≢false s)
add_signed (fin false m e) (fin true n d) s t = absurd (true≢false t)
add_signed (fin false m e) (fin false n d) s t = round_signed binary32 false (m * up e * down d + n * up d * down e) (down e * down d)

zero_from_zero : (k : ℕ) → FromZero 0f (0 * 2 ^ k) 1
unfolding of_bits
zero_from_zero k = (refl, omega arith)

-- up to 2 ^ 24 terms from +0 to 2 ^ k
pub sum_from_zero : (k : ℕ) → k ≤ 103 → (m : ℕ → Bool) (f : ℕ → Float) (n : ℕ) → n ≤ 2 ^ 24 → ((i : ℕ) → i < n → m i ≡ true → FromZero (f i) (2 ^ k) 1) → FromZero (sum_over m f n) (count_marked m n * 2 ^ k) 1
unfolding sum_over
sum_from_zero k K m f n N h =
    over_counted (λ x c. FromZero x (c * 2 ^ k) 1) m (λ s i. s ⊕ f i) 0f (zero_from_zero k) n
    (λ t i c l C e w. (add_signed t (f i) w.0 (h i l e).0, sum_step k K t (f i) c (omega arith) w.1 (h i l e).1))

-- ---- from below

-- a value from +0 on that is not at most a / c is at least a / c
pub above : (x y : Float) (a c b d : ℕ) → 0 < c → FromZero x b d → HasValue y false a c → le x y ≡ false → AtLeast x a c
above nan y a c b d C u v h = absurd u.0
above (inf t) y a c b d C u v h = absurd u.1
above (fin true m e) y a c b d C u v h = absurd (true≢false u.0)
above (fin false m e) y a c b d C u v h =
    ltb-false (m * up e * c) (a * down e) (sym (lt_values (fin false m e) y (m * up e) (down e) a c (down_pos e) C (refl, refl) v) ∙ neither (lt (fin false m e) y) (eq (fin false m e) y) (unfold le in h))
  where
    neither : (b d : Bool) → (b || d) ≡ false → b ≡ false
    neither true d h = h
    neither false d h = refl

-- a product
pub mul_at_least : (x y : Float) (a c b d p q : ℕ) → 0 < c → 0 < d → Rep binary32 p q → p * (c * d) ≤ a * b * q → Signed false x → Signed false y → AtLeast x a c → AtLeast y b d → T (finite (x ⊗ y)) → AtLeast (x ⊗ y) p q
mul_at_least nan y a c b d p q C D r l s t h k f = absurd h
mul_at_least (inf u) y a c b d p q C D r l s t h k f = absurd h
mul_at_least (fin u m e) nan a c b d p q C D r l s t h k f = absurd k
mul_at_least (fin u m e) (inf v) a c b d p q C D r l s t h k f = absurd k
mul_at_least (fin true m e) (fin v n g) a c b d p q C D r l s t h k f = absurd (true≢false s)
mul_at_least (fin false m e) (fin true n g) a c b d p q C D r l s t h k f = absurd (true≢false t)
mul_at_least (fin false m e) (fin false n g) a c b d p q C D r l s t h k f =
    let x = m * up e in
    let y = n * up g in
    let w = down e * down g in
    unfold mul in
    round_at_least binary32 (x * y) w p q (mul-pos (down_pos e) (down_pos g)) r
    (chain p q (a * b) (c * d) (x * y) w (mul-pos C D) l
    (le_trans (le_of_eq (mul-mul-mul_comm a b (down e) (down g))) (le_trans (mul-le-mul h k) (le_of_eq (mul-mul-mul_comm x c y d)))))
    (unfold mul in f)
