-- `blends::breaks` meets its contract. Assumes nothing.
use Prim.Native.Nat.{ℕ, ◌+◌, ◌-◌}
use mathlib.Core.Path.{◌≡◌, sym, ap, ap₂, ◌∙◌}
use native.Mathlib.Nat.{add-zero}
use native.Mathlib.Omega.{arith}
use borrow.Author.Tests.{eq-eqb, ne_eqb}
use Rattle.lists.specs.Marked.{pick}
use Rattle.lists.proofs.Cases.{pick_true, pick_false}
use Rattle.blends.specs.Reads.{breaks_of}
use Rattle.blends.proofs.Runs.{next, breaks_none, breaks_turn, breaks_le}
use Rattle.blends.proofs.breaks.Goals.{then-spots-x, else-spots-x}
use Rattle.blends.proofs.breaks.Goals as goal

pub overflow_add-k : goal.overflow_add-k
overflow_add-k c =
    let l = c.loop-x in record { fits = omega (arith, breaks_le c.args.spots.now c.args.from (l.x - c.args.from - 1)) }

pub loop-x-init : goal.loop-x-init
loop-x-init c =
    let none : c.args.from + 1 - c.args.from - 1 ≡ 0 = omega arith in (omega arith, omega arith, rw none (sym (breaks_none c.args.spots.now c.args.from)))

pub loop-x-preserved : goal.loop-x-preserved
loop-x-preserved c =
    let count_is :
    let l = c.loop-x in
    c.if-spots-x.k ≡ breaks_of c.args.spots.now c.args.from (l.x - c.args.from - 1) + pick (next c.args.spots.now c.args.from l.x) 0 1 =
    let l = c.loop-x in
    let follows = next c.args.spots.now c.args.from l.x in
    let k = breaks_of c.args.spots.now c.args.from (l.x - c.args.from - 1) in
    elim c.if-spots-x.branch [
      | then-spots-x way ↦ way.k-is ∙ ap₂ ◌+◌ l.invariant.2 (sym (pick_false follows 0 1 (ne_eqb _ _ way.if-spots-x.true)))
      | else-spots-x way ↦ way.k-is ∙ l.invariant.2 ∙ sym (add-zero k) ∙ ap (λ (z : ℕ). k + z) (sym (pick_true follows 0 1 (eq-eqb _ _ way.if-spots-x.false)))
    ] in
    let l = c.loop-x in (omega arith, omega arith, count_is ∙ sym (breaks_turn c.args.spots.now c.args.from l.x l.invariant.0))
