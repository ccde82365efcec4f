-- `stats::means_over_mask` meets its contract. Assumes nothing.
use mathlib.Core.Path.{◌∙◌}
use native.Mathlib.Omega.{arith}
use borrow.Author.Rules.{rules}
use Rattle.floats.specs.F32.{0f}
use Rattle.marks.proofs.Count.{count_le}
use Rattle.stats.proofs.Averages.{add_both, both_of, both_none, both_all, both_same, means_of}
use Rattle.stats.proofs.means_over_mask.Goals as goal

pub to_f32-nf-requires : goal.to_f32-nf-requires
to_f32-nf-requires c = omega (arith, count_le)

pub returns : goal.returns
unfolding both_of
returns c =
    let a = c.args in
    let o = c.requires.4 in
    let ws = a.marks.now in
    let xs = a.part.now in
    let sums = c.fold_marked-s.ensures a.n (add_both ws a.n xs) (0f, 0f) o.inside (λ u k r h p. search rules ∙ both_same ws a.n xs u k (omega (arith, o.inside))) (both_none _ _ _ _ _ o) in
    means_of ws a.n xs a.found _ c.to_f32-nf.result (sums ∙ both_all _ _ _ _ _ o) c.requires.1 c.to_f32-nf.ensures
