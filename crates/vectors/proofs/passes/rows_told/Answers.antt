-- `vectors::passes::rows_told` meets its contract. Assumes nothing.
use Prim.Native.Nat.{ℕ, ◌+◌}
use mathlib.Core.Path.{sym, ap, ◌∙◌}
use borrow.Author.Tests.{eq-eqb, ne_eqb}
use lib.Dec.{eqb}
use Rattle.words.specs.Words.{stored_at}
use Rattle.vectors.specs.Passes.{rows_told}
use Rattle.vectors.proofs.Tests.{and_passed, first_failed, second_failed}
use Rattle.vectors.proofs.passes.rows_told.Goals as goal

pub returns-in_default : goal.returns-in_default
returns-in_default c =
    let a = c.args in
    ap (λ (v : ℕ). eqb v 0) c.word.ensures ∙ sym (ap (rows_told a.words.now a.i) c.in_default.is)

pub returns-then-word-ne1 : goal.returns-then-word-ne1
returns-then-word-ne1 c =
    let v = c in
    let r = v in
    let a = r.args in
    let words = a.words.now in
    sym (first_failed _ (ap (λ (v : ℕ). eqb v 1) (sym v.word-2.ensures) ∙ ne_eqb v.word-2.result 1 c.if-word-ne1.true)) ∙ sym (ap (rows_told words a.i) r.in-Some.is)

pub returns-then-word-r : goal.returns-then-word-r
returns-then-word-r c =
    let v = c in
    let r = v in
    let a = r.args in
    let words = a.words.now in
    and_passed (eq-eqb (stored_at words a.i) 1 (sym v.word-2.ensures ∙ c.if-word-ne1.false))
    (and_passed (eq-eqb (stored_at words (a.i + 1)) r.in-Some.r.first (sym c.word-3.ensures ∙ c.if-word-r.true)) (ap (λ (v : ℕ). eqb v r.in-Some.r.last) c.word-then-word-r.ensures))
    ∙ sym (ap (rows_told words a.i) r.in-Some.is)

pub returns-else-word-r : goal.returns-else-word-r
returns-else-word-r c =
    let v = c in
    let r = v in
    let a = r.args in
    let words = a.words.now in
    let first = r.in-Some.r.first in
    let fails = ne_eqb c.word-3.result first c.if-word-r.false in
    fails
    ∙ sym (second_failed (eqb (stored_at words a.i) 1) (first_failed _ (ap (λ (v : ℕ). eqb v first) (sym c.word-3.ensures) ∙ fails)))
    ∙ sym (ap (rows_told words a.i) r.in-Some.is)
