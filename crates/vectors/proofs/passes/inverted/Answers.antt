-- `vectors::passes::inverted` meets its contract. Assumes nothing.
use Prim.Native.Nat.{ℕ}
use mathlib.Core.Path.{sym, ap, ◌∙◌}
use borrow.Author.Tests.{eq-eqb, ne_eqb}
use lib.Dec.{eqb}
use Rattle.words.specs.Words.{stored_at}
use Rattle.vectors.specs.Passes.{inverse_told}
use Rattle.vectors.proofs.Tests.{and_passed, first_failed}
use Rattle.vectors.proofs.Parts.{inverse_told_lem}
use Rattle.vectors.proofs.passes.inverted.Goals as goal

pub returns-in-None : goal.returns-in-None
returns-in-None c =
    let words = c.args.words.now in
    ap (λ (w : ℕ). eqb w 0) c.word.ensures ∙ sym (ap (inverse_told words) c.in-None.is) ∙ inverse_told_lem words c.matrix_at.ensures c.try_inverse.ensures

pub returns-then-word-eq1 : goal.returns-then-word-eq1
returns-then-word-eq1 c =
    let words = c.args.words.now in
    and_passed (eq-eqb (stored_at words 10) 1 (sym c.word-in-Some.ensures ∙ c.if-word-eq1.true)) c.same_floats.ensures
    ∙ sym (ap (inverse_told words) c.in-Some.is)
    ∙ inverse_told_lem words c.matrix_at.ensures c.try_inverse.ensures

pub returns-else-word-eq1 : goal.returns-else-word-eq1
returns-else-word-eq1 c =
    let words = c.args.words.now in
    let fails = ne_eqb c.word-in-Some.result 1 c.if-word-eq1.false in
    fails
    ∙ sym (first_failed _ (ap (λ (w : ℕ). eqb w 1) (sym c.word-in-Some.ensures) ∙ fails))
    ∙ sym (ap (inverse_told words) c.in-Some.is)
    ∙ inverse_told_lem words c.matrix_at.ensures c.try_inverse.ensures
