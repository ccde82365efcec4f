-- `aligner::known` refuses where nothing is remembered, then where a side differs. Assumes nothing.
use Rattle.std.specs.Prelude.{Option}
use mathlib.Core.Path.{sym, ap, ◌∙◌}
use borrow.Author.Tests.{eq-eqb, ne_eqb}
use Rattle.lists.proofs.Cases.{pick_true, pick_false}
use Rattle.settings.specs.declared.Sides.{Sides}
use Rattle.refusals.proofs.Numbered.{fails, passes}
use Rattle.aligner.specs.Aligner.{known_by, known_of}
use Rattle.aligner.proofs.known.Goals as goal

pub returns-in_default : goal.returns-in_default
unfolding known_by known_of
returns-in_default c = let a = c.args in fails _ _ tt (sym (ap (λ (p : Option Sides). known_by p a.w a.h) c.in_default.is))

pub returns-then-prev-w : goal.returns-then-prev-w
unfolding known_by known_of
returns-then-prev-w c =
    let a = c.args in fails _ _ tt (sym (ap (λ (p : Option Sides). known_by p a.w a.h) c.in-Some.is ∙ pick_false _ _ _ (ne_eqb _ _ c.if-prev-w.true)))

pub returns-then-prev-h : goal.returns-then-prev-h
unfolding known_by known_of
returns-then-prev-h c =
    let a = c.args in
    fails _ _ tt
    (sym (ap (λ (p : Option Sides). known_by p a.w a.h) c.in-Some.is ∙ pick_true _ _ _ (eq-eqb _ _ c.if-prev-w.false) ∙ pick_false _ _ _ (ne_eqb _ _ c.if-prev-h.true)))

pub returns : goal.returns
unfolding known_by known_of
returns c =
    let a = c.args in
    passes _
    (sym (ap (λ (p : Option Sides). known_by p a.w a.h) c.in-Some.is ∙ pick_true _ _ _ (eq-eqb _ _ c.if-prev-w.false) ∙ pick_true _ _ _ (eq-eqb _ _ c.if-prev-h.false)))
