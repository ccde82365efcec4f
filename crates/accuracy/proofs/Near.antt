-- A fraction that is close to a series is near it once it is rounded to f32. Assumes nothing.
use mathlib.Core.Path.{◌≡◌, sym, ap, ◌∙◌}
use mathlib.Core.Bool.{Bool, true, false, cond, true≢false}
use Prim.Native.Nat.{ℕ, ◌+◌, ◌*◌, ◌^◌, ◌≤◌, ◌<◌}
use native.Mathlib.Nat.{le_trans, mul_comm, mul_right_comm, mul-pos, mul-le-mul_left}
use native.Mathlib.Omega.{arith}
use lib.Dec.{lit≤}
use lib.Pow.{pow-add, pow_pos}
use lib.Ieee.{Float, nan, inf, fin, binary32, up, down, round}
use lib.Ieee.Exact.{HasValue}
use Rattle.floats.proofs.Nearest.{unit, RoundedTo, rounded_to}
use Rattle.accuracy.specs.Taylor.{Near, NearValue}
use Rattle.accuracy.proofs.Close.{Fraction, just, minus_of, Close, through, looser}

-- ---- a float whose value is close to f is near f

-- h / c, written as g / p
near_fraction : {h c n m : ℕ} {f : Fraction} (t g p : ℕ) → 0 < c → 0 < m → n * t ≤ m → g * c ≡ h * p → Close h c f n m → Near t g p f.plus f.minus f.over
near_fraction {h} {c} {n} {m} {f} t g p C M l e k =
    let same : Close g p (just h c) 0 1 = record { under = omega arith; above = omega arith } in
    let near : Close g p f 1 t = looser {m = 1 * m} (omega arith) (omega arith) (through C same k) in
    (omega (arith, near.under), omega (arith, near.above))

abbrev pub NearTo : ℕ → Float → Fraction → Type 0
NearTo t r f = NearValue t r f.plus f.minus f.over

-- f with the sign s
abbrev pub signed : Bool → Fraction → Fraction
signed s f = cond s (minus_of f) f

near_value : {h c n m : ℕ} {f : Fraction} (t : ℕ) (r : Float) (s : Bool) → 0 < c → 0 < m → n * t ≤ m → HasValue r s h c → Close h c f n m → NearTo t r (signed s f)
near_value t nan s C M l w k = absurd w
near_value t (inf b) s C M l w k = absurd w
near_value t (fin false g x) false C M l w k = near_fraction t (g * up x) (down x) C M l w.1 k
near_value t (fin true g x) true C M l w k = near_fraction t (g * up x) (down x) C M l w.1 k
near_value t (fin false g x) true C M l w k = absurd (true≢false (sym w.0))
near_value t (fin true g x) false C M l w k = absurd (true≢false w.0)

-- ---- rounding

-- p is 2 ^ 149, as a variable: `omega` reads no numeral of more than 38 digits
moved_by : (h p num den w n m : ℕ) → h * den ≤ num * p + w * den → num * p ≤ h * den + w * den → w * m ≡ n * p → Close h p (just num den) n m
moved_by h p num den w n m l g e =
    let x : w * m * den ≡ n * p * den = ap (λ (y : ℕ). y * den) e in
    record { under = omega (arith, mul-le-mul_left m l); above = omega (arith, mul-le-mul_left m g) }

-- rounding a fraction up to 2 ^ k adds 2 ^ k / 2 ^ 25 to its distance
pub rounded_close : {num den n m : ℕ} {f : Fraction} {s : Bool} (k : ℕ) → 0 < den → (r : RoundedTo s num den (2 ^ (124 + k))) → Close num den f n m → Close r.h unit f (2 ^ k * m + n * 2 ^ 25) (2 ^ 25 * m)
rounded_close {num} {den} k D r h = through D (moved_by r.h unit num den (2 ^ (124 + k)) (2 ^ k) (2 ^ 25) r.under r.over e) h
  where
    e : 2 ^ (124 + k) * 2 ^ 25 ≡ 2 ^ k * unit
    e = ap (λ (x : ℕ). x * 2 ^ 25) (pow-add 2 124 k) ∙ mul_right_comm (2 ^ 124) (2 ^ k) (2 ^ 25) ∙ mul_comm unit (2 ^ k)

-- so it is near what the fraction was close to, where the distances leave room
pub round_near : {num den n m : ℕ} {f : Fraction} (t : ℕ) (s : Bool) (k : ℕ) → 0 < den → k ≤ 1 → num ≤ den * 2 ^ k → 0 < m → (2 ^ k * m + n * 2 ^ 25) * t ≤ 2 ^ 25 * m → Close num den f n m
    → NearTo t (round binary32 s num den) (signed s f)
round_near {num} {den} t s k D K b M l h = let r = rounded_to s num den k D (le_trans K (lit≤ tt)) b in near_value t (round binary32 s num den) s (pow_pos 149) (mul-pos (pow_pos 25) M) l r.value (rounded_close k D r h)
