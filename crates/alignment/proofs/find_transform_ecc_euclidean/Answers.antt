-- `alignment::find_transform_ecc_euclidean` meets its contract: a check that fails ends the call with its number; past the checks the call is `align`'s. Assumes nothing.
use Rattle.std.specs.Prelude.{Err}
use Prim.Native.Nat.{ℕ, ◌*◌}
use mathlib.Core.Path.{sym, ap, ◌∙◌}
use borrow.Author.Tests.{eq-eqb}
use Rattle.lists.specs.Lists.{tab, put}
use Rattle.lists.specs.Marked.{words_for}
use Rattle.lists.proofs.Cases.{pick_true, pick_false}
use Rattle.floats.specs.F32.{0f}
use Rattle.settings.specs.Sides.{resized_of}
use Rattle.settings.specs.declared.Sides.{Sides}
use Rattle.checks.proofs.Past.{past, size_is}
use Rattle.refusals.specs.declared.Refusal.{Refusal}
use Rattle.refusals.proofs.Numbered.{is_failed, is_passed}
use Rattle.alignment.specs.Aligned.{run_of, aligned_of, work_after, marks_after}
use Rattle.alignment.proofs.find_transform_ecc_euclidean.Goals as goal

pub returns-in-Err : goal.returns-in-Err
unfolding aligned_of work_after marks_after
returns-in-Err c =
    let t = is_failed _ _ (sym c.in-Err.is ∙ c.check-check.ensures) in
    record { value = ap (λ (r : Refusal). record { passes = 0; answer = Err r }) t.1 ∙ sym (pick_false _ _ _ t.0); leaves = (sym (pick_false _ _ _ t.0), sym (pick_false _ _ _ t.0)) }

pub resized-s-requires : goal.resized-s-requires
resized-s-requires c = (past _ _ _ _ _ _ _ (is_passed _ _ (sym c.in_default.is ∙ c.check-check.ensures))).sides

pub align-requires : goal.align-requires
align-requires c =
    let e = c.resized-s.ensures in
    let p = past _ _ _ _ _ _ _ (is_passed _ _ (sym c.in_default.is ∙ c.check-check.ensures)) in
    let n = size_is _ _ _ _ _ e.0 c.edge.ensures in
    (p.sides, e.1, p.template_fits, p.input_fits, record { images = rw n p.work_fits; places = rw n p.marks_fit }, p.filter, p.passes_most)

pub returns : goal.returns
unfolding aligned_of work_after marks_after
returns c =
    let zero = is_passed _ _ (sym c.in_default.is ∙ c.check-check.ensures) in
    let yes = eq-eqb _ 0 zero in
    let a = c.args in
    let sides = c.resized-s.ensures.0 ∙ ap (λ (k : ℕ). resized_of k a.w a.h) c.edge.ensures in
    let n = size_is a.cfg a.w a.h _ _ c.resized-s.ensures.0 c.edge.ensures in record {
      value = c.align.ensures.value ∙ ap (λ (s : Sides). run_of a.template.now a.input.now a.w a.h s.w s.h a.cfg) sides ∙ sym (pick_true _ _ _ yes);
      leaves = (
        c.align.ensures.work_after.0 ∙ ap (λ (n : ℕ). put a.work.now 0 (tab (12 * n) (λ _. 0f))) n ∙ sym (pick_true _ _ _ yes),
        c.align.ensures.work_after.1 ∙ ap (λ (n : ℕ). put a.marks.now 0 (tab (words_for n) (λ _. 0))) n ∙ sym (pick_true _ _ _ yes),
      );
    }
