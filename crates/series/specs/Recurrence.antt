-- The recurrence that the cosine, the sine and e^-a share, on whole numbers in units of 2 ^ -30. Definitions only.
-- `/` on whole numbers cuts: it is document 01's floor of the exact quotient.
use Rattle.std.specs.Prelude.{ℕ, zero, suc, ◌-◌, ◌*◌, ◌/◌, ◌^◌}

-- what the step for a divisor d takes from 2^30: floor(Z-as-U / (2^30·d))
abbrev pub quotient_of : ℕ → ℕ → ℕ → ℕ
quotient_of z d u = z * u / (2 ^ 30 * d)

-- the step: U becomes 2^30 − floor(Z-as-U / (2^30·d))
abbrev pub u_next : ℕ → ℕ → ℕ → ℕ
u_next z d u = 2 ^ 30 - quotient_of z d u

-- U after the first n of the steps for k = top, top − 1, .., the step for k having the divisor d k; U starts at 2^30
unfoldable pub steps_of : (ℕ → ℕ) → ℕ → ℕ → ℕ → ℕ
steps_of d z top zero = 2 ^ 30
steps_of d z top (suc n) = u_next z (d (top - n)) (steps_of d z top n)
