-- `bits::next_stretch` meets its contract. Assumes nothing.
use Prim.Native.Nat.{ℕ, ◌-◌}
use mathlib.Core.Path.{◌≡◌, sym, ap, ◌∙◌}
use mathlib.Core.Bool.{true, false}
use mathlib.Core.List.{List}
use native.Mathlib.Omega.{arith}
use lib.Arith.{lt_of_le-ne}
use Rattle.lists.specs.Marked.{pick}
use Rattle.bits.specs.Words.{bit_at}
use Rattle.bits.specs.Stretches.{FirstOther, StretchOf}
use Rattle.bits.proofs.next_stretch.Goals as goal

run_of : (ws : List ℕ) (i e a b : ℕ) → FirstOther ws (pick false 1 0) i e a → FirstOther ws (pick true 1 0) a e b → StretchOf ws i e (record { from = a; to = b })
unfolding pick
run_of ws i e a b p q =
    record {
      low = p.low;
      order = q.low;
      high = q.high;
      bare = p.same;
      full = q.same;
      some = λ h. lt_of_le-ne q.low (λ z. clash (sym (p.other h) ∙ ap (bit_at ws) z ∙ q.other (omega arith)));
    }
  where
    clash : ◌≡◌ {A = ℕ} (1 - 0) (1 - 1) → ⊥
    clash e = omega arith

pub returns : goal.returns
returns c = run_of _ _ _ _ _ c.first_other-from.ensures c.first_other-to.ensures
