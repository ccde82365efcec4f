-- `sums2::project` meets its contract. Assumes nothing.
use mathlib.Core.Path.{◌∙◌}
use native.Mathlib.Omega.{arith}
use borrow.Author.Rules.{rules}
use Rattle.rows.proofs.Folds.{fold_to, fold_none, fold_all}
use Rattle.sums2.proofs.Folds.{seven_step, seven_same, no_seven, seven_end}
use Rattle.sums2.proofs.project.Goals as goal

pub returns : goal.returns
unfolding fold_to
returns c =
    let a = c.args in
    let o = c.requires.3 in
    let ws = a.marks.now in
    let xs = a.part.now in
    let sums = c.fold_marked-s.ensures a.n (seven_step ws a.n xs) (no_seven ws a.n xs) o.inside
    (λ u k r h p. search rules ∙ seven_same ws a.n xs u k (omega (arith, o.inside)))
    (fold_none _ _ _ _ _ _ o) in
    seven_end _ _ _ _ (sums ∙ fold_all _ _ _ _ _ _ o)
