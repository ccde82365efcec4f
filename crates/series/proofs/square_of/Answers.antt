-- `series::square_of` meets its contract. Assumes nothing.
use Rattle.std.proofs.Common.{ℕ, ◌^◌, ◌≤◌, sym, subst, lit≤}
use Rattle.series.proofs.Square.{square_none, square_normal, square_le}
use Rattle.series.proofs.square_of.Goals as goal

pub returns-then-e-lt104 : goal.returns-then-e-lt104
returns-then-e-lt104 c = (sym (square_none c.args.b c.if-e-lt104.true), lit≤ tt)

pub returns : goal.returns
returns c =
    let b = c.args.b in
    let is = sym (square_normal b c.requires c.if-e-lt104.false) in
    (is, subst (λ (x : ℕ). x ≤ 2 ^ 32) (sym is) (square_le b c.requires))
