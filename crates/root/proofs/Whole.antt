-- From a bit pattern to that of its root, as the code goes: m * 4 ^ h is 2 ^ 28 times the value in units of 2 ^ -149, with m of 24 or 25 binary digits; the whole root
-- of m * 2 ^ 25 has 25 digits, and half of it, rounded up, is the answer's 24. Assumes nothing.
use mathlib.Core.Path.{◌≡◌, sym, ap, ◌∙◌, subst}
use mathlib.Core.Bool.{true, false}
use Prim.Native.Nat.{ℕ, zero, suc, ◌+◌, ◌-◌, ◌*◌, ◌/◌, ◌%◌, ◌^◌, ◌≤◌, ◌<◌}
use native.Mathlib.Omega.{arith}
use lib.Dec.{T, eqb, lit<}
use lib.Ieee.{Float, nan, inf, fin, binary32, up, down, fits, of_bits}
use lib.Ieee.Fits.{round-fits, nan-fits}
use lib.Ieee.Bits.{of_bits-fits}
use lib.Ieee.Exact.{HasValue}
use Rattle.lists.specs.Marked.{pick}
use Rattle.floats.proofs.Exactly.{value_unique}
use Rattle.root.specs.Root.{sq, sqrt_of, root_near}
use Rattle.root.specs.Scaled.{Scaled}
use Rattle.floats.specs.Units.{units_at}
use Rattle.floats.proofs.Patterns.{units_at_pos, bits_value, units_normal}
use Rattle.root.proofs.Squares.{IsRoot}
use Rattle.root.proofs.Near.{half_lt, near_root, root_range}
use Rattle.root.proofs.Patterns.{root_of_value}
use Rattle.root.proofs.Scaled.{wide, wide_le, wide_ge, wide_even, wide_is}

near_fits : (n : ℕ) → T (fits binary32 (root_near n))
unfolding root_near
near_fits n = round-fits binary32 false (2 * sq 166 n + pick (eqb (sq 166 n * sq 166 n) n) 0 1) (2 ^ 102)

-- the root of an f32 is an f32
pub sqrt_fits : (x : Float) → T (fits binary32 x) → T (fits binary32 (sqrt_of x))
unfolding sqrt_of
sqrt_fits nan h = h
sqrt_fits (inf true) h = nan-fits binary32
sqrt_fits (inf false) h = h
sqrt_fits (fin s zero e) h = h
sqrt_fits (fin true (suc m) e) h = nan-fits binary32
sqrt_fits (fin false (suc m) e) h = near_fits (suc m * up e * 2 ^ 202 / down e)

-- the pattern of q * 2 ^ (h + 49) units
pattern_units : (h q : ℕ) → 8388608 ≤ q → q < 16777216 → units_at ((h + 49) * 8388608 + q) ≡ q * 2 ^ (h + 49)
pattern_units h q l g =
    let r = (h + 49) * 8388608 + q in
    units_normal r (some h q l)
    ∙ ap (λ (z : ℕ). z * 2 ^ (r / 8388608 - 1)) (digits h q l g)
    ∙ ap (λ (z : ℕ). q * 2 ^ z) (field h q l g)
  where
    some : (h q : ℕ) → 8388608 ≤ q → 8388608 ≤ (h + 49) * 8388608 + q
    some h q l = omega arith

    digits : (h q : ℕ) → 8388608 ≤ q → q < 16777216 → 8388608 + ((h + 49) * 8388608 + q) % 8388608 ≡ q
    digits h q l g = omega arith

    field : (h q : ℕ) → 8388608 ≤ q → q < 16777216 → ((h + 49) * 8388608 + q) / 8388608 - 1 ≡ h + 49
    field h q l g = omega arith

-- ---- the field and the digits of the answer

pub q_low : (t : ℕ) → 16777216 ≤ t → 8388608 ≤ (t + 1) / 2
q_low t h = omega arith

-- the answer's pattern, from half of the exponent and the whole root t
abbrev pub pattern : ℕ → ℕ → ℕ
pattern h t = (h + 49) * 8388608 + (t + 1) / 2

pub pattern_root : (b m h t : ℕ) → 0 < b → b < 2139095040 → Scaled (units_at b) m h → IsRoot (wide m) t → (pattern h t < 2139095040) × (of_bits binary32 (pattern h t) ≡ sqrt_of (of_bits binary32 b))
pattern_root b m h t P B s i =
    let q = (t + 1) / 2 in
    let l = wide_ge (units_at b) m h s in
    let g = wide_le (units_at b) m h s in
    let R = root_range (wide m) t l g i in
    let ql = q_low t R.0 in
    let qh = half_lt t R.1 in
    let small = pattern_lt h q s.3 qh in (
      small,
      value_unique binary32 (of_bits binary32 (pattern h t)) (root_near (wide m * (2 ^ h * 2 ^ h))) false (q * 2 ^ (h + 49)) (2 ^ 149) (lit< tt)
          (of_bits-fits binary32 (pattern h t))
          (near_fits (wide m * (2 ^ h * 2 ^ h)))
          (subst (λ (u : ℕ). HasValue (of_bits binary32 (pattern h t)) false u (2 ^ 149)) (pattern_units h q ql qh) (bits_value (pattern h t) small))
          (near_root (wide m) t h s.3 (wide_even m) l g i)
          ∙ ap root_near (sym (wide_is (units_at b) m h s))
          ∙ sym (root_of_value (of_bits binary32 b) (units_at b) (units_at_pos b P) (bits_value b B)),
    )
  where
    pattern_lt : (h q : ℕ) → h ≤ 140 → q < 16777216 → (h + 49) * 8388608 + q < 2139095040
    pattern_lt h q a b = omega arith
