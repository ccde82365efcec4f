-- `sums::add_spread` meets its contract. Assumes nothing.
use Prim.Native.Nat.{ℕ, ◌+◌, ◌-◌, ◌*◌, ◌^◌, ◌<◌}
use mathlib.Core.Path.{◌≡◌, refl, ap, ◌∙◌}
use native.Mathlib.Omega.{arith}
use lib.Ieee.{nan}
use lib.ListN.{get_or}
use Rattle.sums.proofs.Fours.{fours_none, fours_turn, more_put, ones_all, ones_turn, ones_left, ones_over}
use Rattle.sums.proofs.add_spread.Goals as goal

pub loop-left-init : goal.loop-left-init
loop-left-init c =
    let a = c.args in
    let xs = a.part.now in
    let whole : a.len ≡ a.len - 0 = omega arith in (
      omega arith,
      λ h. omega arith,
      ones_all a.len c.requires.1 ∙ ap (λ (j : ℕ). 2 ^ j - 1) whole,
      c.read_four-a.ensures ∙ fours_none xs a.n (5 * a.n) _ a.at,
      c.read_four-b.ensures ∙ fours_none xs a.n 0 _ a.at,
      c.read_four-c.ensures ∙ fours_none xs a.n a.n _ a.at,
      c.read_four-d.ensures ∙ fours_none xs a.n (3 * a.n) _ a.at,
    )

pub loop-left-preserved : goal.loop-left-preserved
loop-left-preserved c =
    let l = c.loop-left in
    let a = c.args in
    let xs = a.part.now in
    let n = a.n in
    let more : l.k < a.len = omega arith in
    let next = ones_turn a.len l.k l.left more l.invariant.2 in
    let quad = c.read_four-v.ensures ∙ c.requires.6 l.k more in
    let here : a.at + l.k ≡ 0 + (a.at + l.k) = omega arith in (
      omega (arith, more),
      λ h. ones_left a.len (l.k + 1) _ next (omega arith),
      next,
      c.add_four-a.ensures ∙ fours_turn xs n (5 * n) _ a.at l.k l.a _ _ l.invariant.3 quad refl,
      c.add_four-b.ensures ∙ fours_turn xs n 0 _ a.at l.k l.b _ _ l.invariant.4 quad (ap (λ (j : ℕ). get_or xs j nan) here),
      c.add_four-c.ensures ∙ fours_turn xs n n _ a.at l.k l.c _ _ l.invariant.5 quad refl,
      c.add_four-d.ensures ∙ fours_turn xs n (3 * n) _ a.at l.k l.d _ _ l.invariant.6 quad refl,
    )

pub returns : goal.returns
returns c =
    let l = c.loop-left in
    let a = c.args in
    let e = ones_over a.len l.k l.left l.invariant.0 l.invariant.2 c.loop-left-test.false in
    more_put a.part.now a.n a.q a.at a.len a.m.now _ _ _ _ l.a l.b l.c l.d
    c.put_four.ensures c.put_four-2.ensures c.put_four-3.ensures c.put_four-4.ensures
    (rw e at l.invariant.3) (rw e at l.invariant.4) (rw e at l.invariant.5) (rw e at l.invariant.6)
