-- `aligner::estimate` meets its contract: the first checks leave all as it was; else the frame is answered, then kept. Assumes nothing.
use Rattle.std.specs.Prelude.{Err, Option, Some}
use mathlib.Core.Path.{sym, ap, ◌∙◌}
use native.Mathlib.Omega.{arith}
use borrow.Author.Rules.{rules}
use borrow.Author.Tests.{eq-eqb}
use lib.ListN.{length}
use Rattle.lists.proofs.Cases.{pick_true, pick_false}
use Rattle.settings.specs.declared.Sides.{Sides}
use Rattle.refusals.specs.declared.Refusal.{Refusal}
use Rattle.refusals.proofs.Numbered.{is_failed, is_passed}
use Rattle.pose.specs.declared.Outcome.{Outcome}
use Rattle.alignment.specs.Aligned.{work_after, marks_after}
use Rattle.aligner.specs.Aligner.{estimate_of, store_after}
use Rattle.aligner.proofs.Numbers.{taken, refused_first, refused_later}
use Rattle.aligner.proofs.estimate.Goals as goal

pub returns-in-Err : goal.returns-in-Err
unfolding estimate_of store_after work_after marks_after
returns-in-Err c =
    let a = c.args in
    let t = is_failed _ _ (sym c.in-Err.is ∙ c.entry.ensures) in
    let why = refused_first a.aligner (length a.frame.now) a.w a.h (length a.work.now) (length a.marks.now) (length a.store.now) t.0 in record {
      value = ap (λ (o : Outcome). record { aligner = a.aligner; outcome = o }) (c.refused.ensures ∙ ap (λ (r : Refusal). record { passes = 0; answer = Err r }) t.1)
          ∙ sym (pick_false _ _ _ t.0);
      store_after = sym (pick_false _ _ _ t.0);
      leaves = (rw why (sym (pick_false _ _ _ t.0)), rw why (sym (pick_false _ _ _ t.0)));
    }

pub answer-outcome-requires : goal.answer-outcome-requires
answer-outcome-requires c =
    let p = taken _ _ _ _ (is_passed _ _ (sym c.in_default.is ∙ c.entry.ensures)) in
    (p.0, p.1, p.3)

pub keep-requires : goal.keep-requires
keep-requires c =
    let p = taken _ _ _ _ (is_passed _ _ (sym c.in_default.is ∙ c.entry.ensures)) in
    omega (arith, p.2, p.3)

pub returns : goal.returns
unfolding estimate_of store_after
returns c =
    let a = c.args in
    let yes = eq-eqb _ 0 (is_passed _ _ (sym c.in_default.is ∙ c.entry.ensures)) in
    let why = refused_later a.aligner (length a.frame.now) a.w a.h (length a.work.now) (length a.marks.now) (length a.store.now) yes in record {
      value = ap (λ (p : Option Sides). record { aligner = record { cfg = a.aligner.cfg; prev = p }; outcome = c.answer-outcome.result }) (search rules)
          ∙ ap (λ (o : Outcome). record { aligner = record { cfg = a.aligner.cfg; prev = Some (record { w = a.w; h = a.h }) }; outcome = o }) c.answer-outcome.ensures.value
          ∙ sym (pick_true _ _ _ yes);
      store_after = c.keep.ensures ∙ sym (pick_true _ _ _ yes);
      leaves = (rw why c.answer-outcome.ensures.leaves.0, rw why c.answer-outcome.ensures.leaves.1);
    }
