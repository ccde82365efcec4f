-- Bounds on the size of a float, as a fraction of two whole numbers. Definitions only.
use Rattle.std.specs.Prelude.{true, false, ◌≡◌, ℕ, ◌+◌, ◌*◌, ◌^◌, ◌≤◌, ◌<◌, suc, List, get_or, Float}
use Rattle.std.specs.Float.{nan, inf, fin, Format}
use Rattle.std.specs.Float.Ieee.{prec, emax, low, up, down}

-- x is finite, and its size is at most a / c
abbrev pub Within : Float → ℕ → ℕ → Type 0
Within nan a c = ⊥
Within (inf s) a c = ⊥
Within (fin s m e) a c = m * up e * c ≤ a * down e

-- x is finite, from 0 to a / c; -0 is a zero too
abbrev pub UpTo : Float → ℕ → ℕ → Type 0
UpTo nan a c = ⊥
UpTo (inf s) a c = ⊥
UpTo (fin false m e) a c = m * up e * c ≤ a * down e
UpTo (fin true m e) a c = m ≡ 0

-- x is finite, and its size is at least a / c
abbrev pub AtLeast : Float → ℕ → ℕ → Type 0
AtLeast nan a c = ⊥
AtLeast (inf s) a c = ⊥
AtLeast (fin s m e) a c = a * down e ≤ m * up e * c

-- a / c is a value of the format f: q * 2 ^ j of its smallest values
pub record Rep (f : Format) (a c : ℕ) : Type 0 where
  pub q : ℕ
  pub j : ℕ
  pub below : 0 < c
  pub few : q < 2 ^ prec f
  pub small : q * 2 ^ j < 2 ^ (low f + suc (emax f))
  pub is : a * 2 ^ low f ≡ q * 2 ^ j * c

-- each of the first n numbers is finite and at most 2 ^ k in size
abbrev pub Bounded : List Float → ℕ → ℕ → Type 0
Bounded xs n k = (i : ℕ) → i < n → Within (get_or xs i nan) (2 ^ k) 1
