-- The power series of the cosine through theta^16 and of the sine through theta^17, over whole numbers, and what it is to be near a value. Definitions only.
-- theta is ±n / d, and a = n * n, c = d * d. The sum over k from 0 to 8 of (-1)^k theta^(2k) / (2k + s)! is the cosine's series where s is 0;
-- where s is 1 it is the sine's without its factor theta. Multiplied by (16 + s)! * c^8 each term is a whole number.
use Rattle.std.specs.Prelude.{true, false, ℕ, zero, suc, ◌+◌, ◌-◌, ◌*◌, ◌/◌, ◌^◌, ◌≤◌, Float}
use Rattle.std.specs.Float.{nan, inf, fin}
use Rattle.std.specs.Float.Ieee.{up, down}

abbrev pub factorial : ℕ → ℕ
factorial zero = 1
factorial (suc k) = suc k * factorial k

-- the term for k without its sign
abbrev pub term : ℕ → ℕ → ℕ → ℕ → ℕ
term s a c k = factorial (16 + s) / factorial (2 * k + s) * (a ^ k * c ^ (8 - k))

-- the terms that are added, those that are taken away, and 1 in the same units: the sum is (evens - odds) / whole
abbrev pub evens : ℕ → ℕ → ℕ → ℕ
evens s a c = term s a c 0 + (term s a c 2 + (term s a c 4 + (term s a c 6 + term s a c 8)))

abbrev pub odds : ℕ → ℕ → ℕ → ℕ
odds s a c = term s a c 1 + (term s a c 3 + (term s a c 5 + term s a c 7))

abbrev pub whole : ℕ → ℕ → ℕ
whole s c = factorial (16 + s) * c ^ 8

-- g / p is within 1 / t of (e - o) / q, the denominators multiplied out
abbrev pub Near : ℕ → ℕ → ℕ → ℕ → ℕ → ℕ → Type 0
Near t g p e o q = (t * (g * q + p * o) ≤ t * (p * e) + p * q) × (t * (p * e) ≤ t * (g * q + p * o) + p * q)

-- the float r is finite and within 1 / t of (e - o) / q
abbrev pub NearValue : ℕ → Float → ℕ → ℕ → ℕ → Type 0
NearValue t nan e o q = ⊥
NearValue t (inf s) e o q = ⊥
NearValue t (fin false m x) e o q = Near t (m * up x) (down x) e o q
NearValue t (fin true m x) e o q = Near t (m * up x) (down x) o e q

-- r is within 2 ^ -24 of the cosine's series at theta
abbrev pub NearCos : Float → Float → Type 0
NearCos nan r = ⊥
NearCos (inf s) r = ⊥
NearCos (fin s k x) r = let n = k * up x in let d = down x in NearValue (2 ^ 24) r (evens 0 (n * n) (d * d)) (odds 0 (n * n) (d * d)) (whole 0 (d * d))

-- r is within 2 ^ -23 of the sine's series at theta: of ±n / d times the sum
abbrev pub NearSin : Float → Float → Type 0
NearSin nan r = ⊥
NearSin (inf s) r = ⊥
NearSin (fin false k x) r = let n = k * up x in let d = down x in NearValue (2 ^ 23) r (n * evens 1 (n * n) (d * d)) (n * odds 1 (n * n) (d * d)) (d * whole 1 (d * d))
NearSin (fin true k x) r = let n = k * up x in let d = down x in NearValue (2 ^ 23) r (n * odds 1 (n * n) (d * d)) (n * evens 1 (n * n) (d * d)) (d * whole 1 (d * d))
