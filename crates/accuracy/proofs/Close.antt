-- How far a fraction is from another, over whole numbers: the distances of steps that follow each other add up. Assumes nothing.
use mathlib.Core.Path.{◌≡◌, ap}
use Prim.Native.Nat.{ℕ, ◌+◌, ◌*◌, ◌≤◌, ◌<◌}
use native.Mathlib.Nat.{le_trans, le_of_eq, mul-le-mul_left, le_of_mul-le-mul_left}
use native.Mathlib.Omega.{arith}

-- (plus - minus) / over: the two parts are kept apart, so that no difference is cut off
pub record Fraction : Type 0 where
  pub plus : ℕ
  pub minus : ℕ
  pub over : ℕ

-- x / y
abbrev pub just : ℕ → ℕ → Fraction
just x y = record { plus = x; minus = 0; over = y }

-- a / b times f
abbrev pub scale : ℕ → ℕ → Fraction → Fraction
scale a b f = record { plus = a * f.plus; minus = a * f.minus; over = b * f.over }

-- 1 less f
abbrev pub rest : Fraction → Fraction
rest f = record { plus = f.over + f.minus; minus = f.plus; over = f.over }

-- f with the other sign
abbrev pub minus_of : Fraction → Fraction
minus_of f = record { plus = f.minus; minus = f.plus; over = f.over }

-- g / p is within n / m of f, the denominators multiplied out
pub record Close (g p : ℕ) (f : Fraction) (n m : ℕ) : Type 0 where
  pub under : m * (g * f.over + p * f.minus) ≤ m * (p * f.plus) + n * (p * f.over)
  pub above : m * (p * f.plus) ≤ m * (g * f.over + p * f.minus) + n * (p * f.over)

-- h / p is n / m from x / y, and that is k / l from f: together n / m + k / l
pub through : {h p x y n m k l : ℕ} {f : Fraction} → 0 < y → Close h p (just x y) n m → Close x y f k l → Close h p f (n * l + k * m) (m * l)
through {h} {p} {x} {y} {n} {m} {k} {l} {f} Y a b = record { under = le_of_mul-le-mul_left (le_trans low (le_of_eq (omega arith))) Y; above = le_of_mul-le-mul_left (le_trans high (le_of_eq (omega arith))) Y }
  where
    low : y * (m * l * (h * f.over + p * f.minus)) ≤ m * p * (l * (y * f.plus) + k * (y * f.over)) + l * f.over * (n * (p * y))
    low = omega (arith, mul-le-mul_left (l * f.over) a.under, mul-le-mul_left (m * p) b.under)

    high : y * (m * l * (p * f.plus)) ≤ l * f.over * (m * (h * y + p * 0) + n * (p * y)) + m * p * (l * (y * f.minus) + k * (y * f.over))
    high = omega (arith, mul-le-mul_left (l * f.over) a.above, mul-le-mul_left (m * p) b.above)

-- n / m is at most k / l
pub looser : {g p n m k l : ℕ} {f : Fraction} → 0 < m → n * l ≤ k * m → Close g p f n m → Close g p f k l
looser {g} {p} {n} {m} {k} {l} {f} M h a =
    record {
      under = le_of_mul-le-mul_left {k = m} (omega (arith, mul-le-mul_left l a.under, mul-le-mul_left (p * f.over) h)) M;
      above = le_of_mul-le-mul_left {k = m} (omega (arith, mul-le-mul_left l a.above, mul-le-mul_left (p * f.over) h)) M;
    }

pub times : {g p n m : ℕ} {f : Fraction} (a b : ℕ) → Close g p f n m → Close (g * a) (p * b) (scale a b f) (n * a) (m * b)
times a b h = record { under = omega (arith, mul-le-mul_left (a * (b * b)) h.under); above = omega (arith, mul-le-mul_left (a * (b * b)) h.above) }

-- what is left of 1
pub left : {v t p n m : ℕ} {f : Fraction} → v + t ≡ p → Close t p f n m → Close v p (rest f) n m
left {v} {t} {p} {n} {m} {f} e h =
    let one : m * ((v + t) * f.over) ≡ m * (p * f.over) = ap (λ (x : ℕ). m * (x * f.over)) e in
    record { under = omega arith; above = omega arith }

-- what goes past 1
pub past : {v t p n m : ℕ} {f : Fraction} → v + p ≡ t → Close t p f n m → Close v p (minus_of (rest f)) n m
past {v} {t} {p} {n} {m} {f} e h =
    let one : m * ((v + p) * f.over) ≡ m * (t * f.over) = ap (λ (x : ℕ). m * (x * f.over)) e in
    record { under = omega arith; above = omega arith }
