-- `boundary::put_four` meets its contract. Assumes nothing.
use mathlib.Core.List.{[], ◌∷◌}
use native.Mathlib.Omega.{arith}
use lib.ListN.{length-set}
use Rattle.boundary.proofs.Front.{stored_front, short_front}
use Rattle.boundary.proofs.put_four.Goals as goal

pub returns-then-out-lt4 : goal.returns-then-out-lt4
returns-then-out-lt4 c =
    let a = c.args in
    short_front _ (a.a ∷ a.b ∷ a.c ∷ a.d ∷ []) c.if-out-lt4.true

pub bounds-out-1 : goal.bounds-out-1
bounds-out-1 c = simp length-set (omega arith)

pub bounds-out-2 : goal.bounds-out-2
bounds-out-2 c = simp length-set (omega arith)

pub bounds-out-3 : goal.bounds-out-3
bounds-out-3 c = simp length-set (omega arith)

pub returns : goal.returns
returns c =
    let a = c.args in
    stored_front _ (a.a ∷ a.b ∷ a.c ∷ a.d ∷ []) (omega arith)
