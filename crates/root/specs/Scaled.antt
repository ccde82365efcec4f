-- What the code takes a whole root of. Definitions only.
use Rattle.std.specs.Prelude.{◌≡◌, ℕ, ◌+◌, ◌-◌, ◌*◌, ◌^◌, ◌≤◌}

-- m * 4 ^ h is 2 ^ 28 times u. m has 24 binary digits, or 25 and is not 2 ^ 25 - 1: half of the whole root of m * 2 ^ 25, rounded up, then has 24.
abbrev pub Scaled : ℕ → ℕ → ℕ → Type 0
Scaled u m h = (m * 2 ^ (h + h) ≡ u * 2 ^ 28) × (2 ^ 23 ≤ m) × (m ≤ 2 ^ 25 - 2) × (h ≤ 140)
