-- `options::eps`: the digits end within the word, and so does a point behind them. Assumes nothing.
use Prim.Native.Nat.{◌≤◌}
use mathlib.Core.Path.{sym, ◌∙◌}
use mathlib.Core.List.{[], ◌∷◌}
use native.Mathlib.Omega.{arith}
use lib.ListN.{length, drop, length-drop}
use Rattle.options.proofs.Prefix.{begins_long}
use Rattle.options.proofs.Within.{from_start, to_end, held_to}
use Rattle.options.proofs.eps.Goals as goal

pub stands-requires : goal.stands-requires
stands-requires c = to_end _ _ 0 16777217 c.digits_at-d.ensures c.requires

pub overflow_add-d : goal.overflow_add-d
overflow_add-d c = omega (arith, to_end c.args.s.now c.args.at 0 16777217 c.digits_at-d.ensures c.requires)

pub behind-requires : goal.behind-requires
behind-requires c =
    let s = c.args.s.now in
    let a = c.args.at in
    let n = c.digits_at-d.result.next in
    let e = c.digits_at-d.ensures in
    let h : 1 ≤ length (drop n s) = begins_long (drop n s) (46 ∷ []) (sym c.stands.ensures ∙ c.if-stands.true) in
    (omega (arith, from_start s a 0 16777217 e), omega (arith, length-drop n s, to_end s a 0 16777217 e c.requires), held_to s a 0 16777217 e)

pub tail-requires : goal.tail-requires
tail-requires c = (to_end _ _ 0 16777217 c.digits_at-d.ensures c.requires, omega arith)
