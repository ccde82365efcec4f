-- `alignment::align` meets its contract: both frames are made ready, the passes run, and all that was used is cleared. Assumes nothing.
use mathlib.Core.Path.{ap, ◌∙◌}
use native.Mathlib.Omega.{arith}
use Prim.Native.Nat.{ℕ, ◌*◌, ◌≤◌}
use native.Mathlib.Nat.{le_refl, mul-le-mul}
use mir.Facts.{Fits-le, Fits-lit}
use Rattle.lists.specs.Lists.{tab, put}
use Rattle.lists.proofs.Fill.{front_over}
use Rattle.alignment.proofs.Run.{ready_run}
use Rattle.alignment.proofs.align.Goals as goal

pub overflow_mul-n-2 : goal.overflow_mul-n-2
overflow_mul-n-2 c =
    let a = c.args in
    let most : 12 * (a.tw * a.th) ≤ 12 * (4096 * 4096) = mul-le-mul (le_refl 12) (mul-le-mul c.requires.1.w_most c.requires.1.h_most) in
    Fits-le most (Fits-lit tt)

pub overflow_add-n : goal.overflow_add-n
overflow_add-n c =
    let p = c.requires in
    omega (arith, mul-le-mul p.1.w_most p.1.h_most)

pub fill_words-requires : goal.fill_words-requires
fill_words-requires c =
    let p = c.requires in
    omega (arith, p.4.places, c.run-out.auto.marks)

pub returns : goal.returns
returns c =
    let a = c.args in
    let ready = ready_run a.template.now a.input.now a.w a.h a.tw a.th a.cfg a.work.now _ c.make_ready.ensures in record { value = rw (c.to_f32-4.ensures, c.to_f32-3.ensures, c.to_f32-2.ensures, c.to_f32.ensures) at c.run-out.ensures.result_value ∙ ready; work_after = (c.fill_floats.ensures ∙ front_over _ _ _ _ (c.run-out.ensures.kept.0.rest ∙ c.make_ready.ensures.rest), c.fill_words.ensures ∙ ap (λ (k : ℕ). put c.run-out.new.marks 0 (tab k (λ _. 0))) (omega arith) ∙ front_over _ _ _ _ c.run-out.ensures.kept.1.rest) }
