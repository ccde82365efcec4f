-- `middle::sized` meets its contract. Assumes nothing.
use mathlib.Core.Path.{◌≡◌, ◌∙◌}
use Prim.Native.Nat.{ℕ, ◌/◌, ◌≤◌}
use native.Mathlib.Omega.{arith}
use Rattle.middle.proofs.Digits.{sized_small, sized_normal}
use Rattle.middle.proofs.sized.Goals as goal

normal : (b : ℕ) → (b / 8388608 ≡ 0 → ⊥) → 8388608 ≤ b
normal b h = omega (arith, h)

pub returns-then-e-eq0 : goal.returns-then-e-eq0
returns-then-e-eq0 c =
    let e = c.shifted.ensures in (e.0 ∙ sized_small _ _ c.if-e-eq0.true, e.1, e.2)

pub returns : goal.returns
returns c =
    let e = c.shifted-2.ensures in (e.0 ∙ sized_normal _ _ (normal _ c.if-e-eq0.false), e.1, e.2)
