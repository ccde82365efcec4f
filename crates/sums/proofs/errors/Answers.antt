-- `sums::errors` meets its contract. Assumes nothing.
use mathlib.Core.Path.{◌∙◌}
use native.Mathlib.Omega.{arith}
use borrow.Author.Rules.{rules}
use Rattle.lists.specs.Lists.{image}
use Rattle.floats.specs.F32.{0f}
use Rattle.rows.proofs.Folds.{fold_to, fold_none, fold_all}
use Rattle.sums.specs.Sums.{error_of}
use Rattle.sums.proofs.Folds.{add_proj, proj_same, proj_end, error_at}
use Rattle.sums.proofs.errors.Goals as goal

pub returns : goal.returns
unfolding fold_to
returns c =
    let a = c.args in
    let n = a.n in
    let o = c.requires.3 in
    let ws = a.marks.now in
    let xs = a.part.now in
    let es = error_of n a.lambda (image n 3 xs) (image n 4 xs) in
    let sums = c.fold_marked.ensures n (add_proj ws n xs es) (0f, 0f, 0f) o.inside
    (λ u k r h p. search rules ∙ proj_same ws n xs es u k _ (omega (arith, o.inside)) (error_at n xs a.lambda k (omega (arith, o.inside))))
    (fold_none _ _ _ _ _ _ o) in
    proj_end ws n xs es _ (sums ∙ fold_all _ _ _ _ _ _ o)
