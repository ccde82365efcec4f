-- `root::small_of` meets its contract. The invariant: m is b * 2 ^ (28 - 2 h), so that quartering it loses nothing. Assumes nothing.
use mathlib.Core.Path.{◌≡◌, sym, ap, ◌∙◌}
use Prim.Native.Nat.{ℕ, ◌+◌, ◌-◌, ◌*◌, ◌/◌, ◌^◌, ◌≤◌, ◌<◌}
use native.Mathlib.Nat.{mul_assoc, mul-div_cancel}
use native.Mathlib.Omega.{arith}
use lib.Dec.{lit<, lit≤}
use lib.Pow.{pow-add, shl_exact}
use Rattle.root.proofs.small_of.Invariants.{Quartered}
use Rattle.root.proofs.small_of.Goals as goal

-- two digits of the power, at an h below 14
two : (b m h : ℕ) → h ≤ 13 → m ≡ b * 2 ^ (28 - (h + h)) → m ≡ b * 2 ^ (28 - (h + 1 + (h + 1))) * 4
two b m h l e = e ∙ ap (λ (z : ℕ). b * 2 ^ z) (back h l) ∙ ap (λ (z : ℕ). b * z) (pow-add 2 (28 - (h + 1 + (h + 1))) 2) ∙ sym (mul_assoc b (2 ^ (28 - (h + 1 + (h + 1)))) 4)
  where
    back : (h : ℕ) → h ≤ 13 → 28 - (h + h) ≡ 28 - (h + 1 + (h + 1)) + 2
    back h l = omega arith

step : (b m h : ℕ) → b < 2 ^ 23 → Quartered b m h → 2 ^ 25 ≤ m → Quartered b (m / 4) (h + 1)
step b m h B q l = (
  ap (λ (z : ℕ). z / 4) (two b m h q.1 q.0) ∙ mul-div_cancel (b * 2 ^ (28 - (h + 1 + (h + 1)))) (lit< tt),
  below q.1 (λ (e : h ≡ 13). last b m B (q.0 ∙ ap (λ (z : ℕ). b * 2 ^ (28 - (z + z))) e) l),
  omega arith,
)
  where
    -- at 13 there would be 25 digits at the most
    last : (b m : ℕ) → b < 8388608 → m ≡ b * 4 → 33554432 ≤ m → ⊥
    last b m B e l = omega arith

    below : {h : ℕ} → h ≤ 13 → (h ≡ 13 → ⊥) → h + 1 ≤ 13
    below l n = omega arith

-- a multiple of four below 2 ^ 25
under : (m a : ℕ) → m ≡ a * 4 → m < 2 ^ 25 → m ≤ 2 ^ 25 - 2
under m a e h = omega arith

whole : (b m h : ℕ) → h ≤ 13 → m ≡ b * 2 ^ (28 - (h + h)) → m * 2 ^ (h + h) ≡ b * 2 ^ 28
whole b m h l e =
    ap (λ (z : ℕ). z * 2 ^ (h + h)) e
    ∙ mul_assoc b (2 ^ (28 - (h + h))) (2 ^ (h + h))
    ∙ ap (λ (z : ℕ). b * z) (sym (pow-add 2 (28 - (h + h)) (h + h)) ∙ ap (λ (z : ℕ). 2 ^ z) (all h l))
  where
    all : (h : ℕ) → h ≤ 13 → 28 - (h + h) + (h + h) ≡ 28
    all h l = omega arith

pub loop-m-init : goal.loop-m-init
loop-m-init c =
    let e = shl_exact {a = c.args.b} 23 24 64 c.requires.1 (lit≤ tt) in
    (e, lit≤ tt, omega (arith, e, c.requires.0))

pub loop-m-smaller : goal.loop-m-smaller
loop-m-smaller c = omega arith

pub loop-m-preserved : goal.loop-m-preserved
loop-m-preserved c =
    let l = c.loop-m in
    step c.args.b l.m l.h c.requires.1 l.invariant (omega arith)

pub returns : goal.returns
returns c =
    let b = c.args.b in
    let l = c.loop-m in
    let i = l.invariant in
    (whole b l.m l.h i.1 i.0, i.2, under l.m (b * 2 ^ (28 - (l.h + 1 + (l.h + 1)))) (two b l.m l.h i.1 i.0) (omega arith), omega arith)
