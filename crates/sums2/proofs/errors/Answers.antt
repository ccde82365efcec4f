-- `sums2::errors` meets its contract. Assumes nothing.
use mathlib.Core.Path.{◌∙◌}
use native.Mathlib.Omega.{arith}
use borrow.Author.Rules.{rules}
use Rattle.floats.specs.F32.{0f}
use Rattle.rows.proofs.Folds.{fold_to, fold_none, fold_all}
use Rattle.sums2.proofs.Folds.{error_step, error_same, errors_end}
use Rattle.sums2.proofs.errors.Goals as goal

pub returns : goal.returns
unfolding fold_to
returns c =
    let a = c.args in
    let o = c.requires.3 in
    let ws = a.marks.now in
    let xs = a.part.now in
    let sums = c.fold_marked.ensures a.n (error_step ws a.n xs a.lambda) (0f, 0f) o.inside
    (λ u k r h p. search rules ∙ error_same ws a.n xs a.lambda u k (omega (arith, o.inside)))
    (fold_none _ _ _ _ _ _ o) in
    errors_end _ _ _ _ _ (sums ∙ fold_all _ _ _ _ _ _ o)
