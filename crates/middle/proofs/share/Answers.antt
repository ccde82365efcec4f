-- `middle::share` meets its contract. Assumes nothing.
use mathlib.Core.Path.{◌≡◌, refl, sym, ap, ◌∙◌}
use mathlib.Core.Bool.{Bool, true, false, beq, true≢false}
use Prim.Native.Nat.{ℕ, ◌*◌, ◌%◌}
use native.Mathlib.Nat.{zero-mul}
use lib.Dec.{leb}
use lib.Ieee.{unlike}
use Rattle.lists.specs.Marked.{pick}
use Rattle.floats.specs.Units.{units_at}
use Rattle.middle.proofs.share.Goals as goal

same_sign : (s back : Bool) (u : ℕ) → beq s back ≡ true → pick (unlike s back) 0 u ≡ u
unfolding pick
same_sign true true u h = refl
same_sign true false u h = absurd (true≢false (sym h))
same_sign false true u h = absurd (true≢false (sym h))
same_sign false false u h = refl

other_sign : (s back : Bool) (u : ℕ) → beq s back ≡ false → pick (unlike s back) 0 u ≡ 0
unfolding pick
other_sign true true u h = absurd (true≢false h)
other_sign true false u h = refl
other_sign false true u h = refl
other_sign false false u h = absurd (true≢false h)

pub returns-then-b-back : goal.returns-then-b-back
returns-then-b-back c =
    let e = c.sized.ensures in (e.0 ∙ ap (λ (u : ℕ). u * c.args.f) (sym (same_sign (leb 2147483648 c.args.b) c.args.back _ c.if-b-back.true)), e.1, e.2)

pub returns-else-b-back : goal.returns-else-b-back
returns-else-b-back c =
    let e = c.shifted.ensures in (e.0 ∙ sym (zero-mul c.args.f) ∙ ap (λ (u : ℕ). u * c.args.f) (sym (other_sign (leb 2147483648 c.args.b) c.args.back (units_at (c.args.b % 2147483648)) c.if-b-back.false)), e.1, e.2)
