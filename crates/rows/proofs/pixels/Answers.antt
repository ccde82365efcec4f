-- `rows::pixels` meets its contract. Assumes nothing.
use Prim.Native.Nat.{ℕ, ◌+◌, ◌*◌, ◌≤◌}
use mathlib.Core.Path.{◌≡◌, ap}
use mir.Syntax.{w64}
use mir.Val.{Fits}
use native.Mathlib.Nat.{mul-le-mul}
use native.Mathlib.Omega.{arith}
use Rattle.bits.specs.declared.Stretch.{Stretch}
use Rattle.rows.specs.Between.{pixels_of}
use Rattle.rows.proofs.pixels.Goals as goal

few : (k w : ℕ) → k ≤ 4096 → w ≤ 4096 → Fits w64 (k * w)
few k w a b = omega (arith, mul-le-mul a b)

-- the pixels before the row k, which follows the last
up_to : (from last k w : ℕ) → k ≡ last + 1 → ◌≡◌ {A = Stretch} (record { from = from; to = k * w }) (record { from = from; to = (last + 1) * w })
up_to from last k w e = ap (λ (z : ℕ). record { from = from; to = z * w }) e

pub overflow_mul-result : goal.overflow_mul-result
overflow_mul-result c = few _ _ (omega (arith, c.requires.0, c.requires.1)) c.requires.2

pub overflow_mul-result-2 : goal.overflow_mul-result-2
overflow_mul-result-2 c = few _ _ (omega (arith, c.requires.1)) c.requires.2

pub returns : goal.returns
unfolding pixels_of
returns c =
    let a = c.args in up_to (a.rows.first * a.w) a.rows.last _ a.w (omega arith)
