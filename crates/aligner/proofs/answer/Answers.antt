-- `aligner::answer` meets its contract: 11 and 12 leave work and marks as they were; else the answer is the alignment's. Assumes nothing.
use Rattle.std.specs.Prelude.{Err}
use Prim.Native.Nat.{◌*◌}
use mathlib.Core.Path.{sym, ap, ◌∙◌}
use borrow.Author.Tests.{eq-eqb}
use lib.ListN.{length}
use lib.Seq.{length-take-le}
use Rattle.lists.proofs.Cases.{pick_true, pick_false}
use Rattle.refusals.specs.declared.Refusal.{Refusal}
use Rattle.refusals.proofs.Numbered.{is_failed, is_passed}
use Rattle.alignment.specs.Aligned.{work_after, marks_after}
use Rattle.aligner.specs.Aligner.{answer_of}
use Rattle.aligner.proofs.Numbers.{begun_refused, begun_checked}
use Rattle.aligner.proofs.answer.Goals as goal

pub returns-in-Err : goal.returns-in-Err
unfolding answer_of work_after marks_after
returns-in-Err c =
    let t = is_failed _ _ (sym c.in-Err.is ∙ c.known.ensures) in
    let a = c.args in
    let why = begun_refused a.aligner (length a.frame.now) a.w a.h (length a.work.now) (length a.marks.now) t.0 in record {
      value = c.refused.ensures ∙ ap (λ (r : Refusal). record { passes = 0; answer = Err r }) t.1 ∙ sym (pick_false _ _ _ t.0);
      leaves = (rw why (sym (pick_false _ _ _ t.0)), rw why (sym (pick_false _ _ _ t.0)));
    }

pub returns : goal.returns
unfolding answer_of
returns c =
    let a = c.args in
    let p = c.requires in
    let yes = eq-eqb _ 0 (is_passed _ _ (sym c.in_default.is ∙ c.known.ensures)) in
    let full = length-take-le (a.w * a.h) a.store.now p.2 in
    let why = begun_checked a.aligner (length a.frame.now) a.w a.h (length a.work.now) (length a.marks.now) yes in record { value = c.find_transform_ecc_euclidean.ensures.value ∙ sym (pick_true _ _ _ yes); leaves = (rw (why, ← full) c.find_transform_ecc_euclidean.ensures.leaves.0, rw (why, ← full) c.find_transform_ecc_euclidean.ensures.leaves.1) }
