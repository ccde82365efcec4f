-- `root::normal_of` meets its contract: the low 24 digits of a pattern by two shifts, and both cases of the 24th. Assumes nothing.
use mathlib.Core.Path.{◌≡◌, sym, ap, ◌∙◌, subst}
use Prim.Native.Nat.{ℕ, ◌+◌, ◌-◌, ◌*◌, ◌/◌, ◌%◌, ◌^◌, ◌≤◌, ◌<◌}
use native.Mathlib.Nat.{mul_assoc}
use native.Mathlib.Omega.{arith}
use lib.Dec.{lit≤}
use lib.Pow.{pow-add}
use Rattle.floats.specs.Units.{units_at}
use Rattle.floats.proofs.Patterns.{units_small, units_normal}
use Rattle.root.specs.Scaled.{Scaled}
use Rattle.root.proofs.Scaled.{of_digits}
use Rattle.root.proofs.normal_of.Goals as goal

-- the low 24 digits
low : (b : ℕ) → b * 2 ^ 8 % 2 ^ 32 / 2 ^ 8 ≡ b % 16777216
low b = omega arith

doubled : (b d : ℕ) → d ≡ b % 16777216 → d < 8388608 → (d + 8388608) * 2 ^ 1 % 2 ^ 32 ≡ (8388608 + b % 8388608) * 2 ^ 1
doubled b d e h = omega arith

units : (b : ℕ) → 8388608 ≤ b → (8388608 + b % 8388608) * 2 ^ (b / 8388608 + 23) ≡ units_at b * 2 ^ 24
units b l =
    ap (λ (z : ℕ). (8388608 + b % 8388608) * z) (ap (λ (z : ℕ). 2 ^ z) (lift b l) ∙ pow-add 2 (b / 8388608 - 1) 24)
    ∙ sym (mul_assoc (8388608 + b % 8388608) (2 ^ (b / 8388608 - 1)) (2 ^ 24))
    ∙ ap (λ (z : ℕ). z * 2 ^ 24) (sym (units_normal b l))
  where
    lift : (b : ℕ) → 8388608 ≤ b → b / 8388608 + 23 ≡ b / 8388608 - 1 + 24
    lift b h = omega arith

-- of a pattern that is no subnormal's, m is the 24 digits with s more
normal : (b s m h : ℕ) → 8388608 ≤ b → b < 2139095040 → s ≤ 1 → m ≡ (8388608 + b % 8388608) * 2 ^ s → s + (h + h) ≡ b / 8388608 + 27 → Scaled (units_at b) m h
normal b s m h l g S d e =
    subst (λ (m : ℕ). Scaled (units_at b) m h) (sym d) (of_digits (units_at b) (8388608 + b % 8388608) (b / 8388608 + 23) s h (units b l) (omega arith) (omega arith) (omega arith) S (omega (arith, e)))

pub returns-then-b-lt8388608 : goal.returns-then-b-lt8388608
returns-then-b-lt8388608 c = subst (λ (u : ℕ). Scaled u c.small_of.result.m c.small_of.result.h) (sym (units_small c.args.b c.if-b-lt8388608.true)) c.small_of.ensures

pub returns-then-low-ge8388608 : goal.returns-then-low-ge8388608
returns-then-low-ge8388608 c =
    let b = c.args.b in
    normal b 0 _ _ c.if-b-lt8388608.false c.requires.1 (lit≤ tt) (omega (arith, low b)) (omega (arith, low b))

pub returns : goal.returns
returns c =
    let b = c.args.b in
    normal b 1 _ _ c.if-b-lt8388608.false c.requires.1 (lit≤ tt) (doubled b _ (low b) (omega arith)) (omega (arith, low b))
