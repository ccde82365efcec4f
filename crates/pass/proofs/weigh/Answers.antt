-- `pass::weigh` meets its contract: one case for each verdict. Assumes nothing.
use Rattle.std.specs.Prelude.{Ok, Err}
use Prim.Native.Nat.{◌*◌}
use mathlib.Core.Path.{◌≡◌, ap, ◌∙◌}
use native.Mathlib.Nat.{mul-le-mul}
use native.Mathlib.Omega.{arith}
use borrow.Author.Rules.{rules}
use Rattle.bits.specs.Words.{unpacked_of}
use Rattle.rows.proofs.Between.{rows_order, span_between}
use Rattle.pass.specs.Kept.{Kept}
use Rattle.pass.proofs.Work.{kept_centre, solved_there, kept_solve}
use Rattle.pass.proofs.Ends.{on_bad, on_settled, on_unsettled}
use Rattle.pass.proofs.weigh.Goals as goal

pub pixels-span-requires : goal.pixels-span-requires
pixels-span-requires c =
    let a = c.args in
    let r = rows_order (unpacked_of a.marks.now (a.w * a.h)) a.w a.h a.rows c.requires.2 in
    (r.0, omega (arith, r.1, c.requires.0.h_most), c.requires.0.w_most)

pub centre_work-s-requires : goal.centre_work-s-requires
centre_work-s-requires c =
    let a = c.args in
    (mul-le-mul c.requires.0.w_most c.requires.0.h_most, c.requires.3, c.requires.1, span_between (unpacked_of a.marks.now (a.w * a.h)) a.w a.h a.rows c.requires.2 _ c.pixels-span.ensures)

pub returns-in_err-rho : goal.returns-in_err-rho
returns-in_err-rho c =
    let kept : let a = c.args in Kept (a.w * a.h) a.work.now c.centre_work-s.new.work =
    let a = c.args in
    let n = a.w * a.h in
    kept_centre (unpacked_of a.marks.now n) a.w a.h a.work.now c.requires.1.images _ c.centre_work-s.auto.work _ c.centre_work-s.ensures in
    let same : c.from_residual.result ≡ Err c.in_err-rho.field-0.0 = search rules in
    record { result_value = same ∙ on_bad _ _ _ _ _ _ _ _ _ _ _ c.centre_work-s.ensures.answer _ c.judge.ensures _ c.in_err-rho.was; kept = kept }

pub returns-in-Settled : goal.returns-in-Settled
returns-in-Settled c =
    let kept : let a = c.args in Kept (a.w * a.h) a.work.now c.centre_work-s.new.work =
    let a = c.args in
    let n = a.w * a.h in
    kept_centre (unpacked_of a.marks.now n) a.w a.h a.work.now c.requires.1.images _ c.centre_work-s.auto.work _ c.centre_work-s.ensures in
    record { result_value = on_settled _ _ _ _ _ _ _ _ _ _ _ c.centre_work-s.ensures.answer _ c.judge.ensures _ (c.in_ok-rho.was ∙ ap Ok c.in-Settled.is); kept = kept }

pub returns-in-Unsettled : goal.returns-in-Unsettled
returns-in-Unsettled c =
    let a = c.args in
    let ms = unpacked_of a.marks.now (a.w * a.h) in
    let size = c.centre_work-s.auto.work in
    let q = c.centre_work-s.ensures in record {
      result_value = on_unsettled _ _ _ _ _ _ _ _ _ _ _ q.answer _ c.judge.ensures _ (c.in_ok-rho.was ∙ ap Ok c.in-Unsettled.is) _
          (solved_there ms a.w a.h a.work.now c.requires.1.images _ size _ q a.at _ _ c.solve_work.ensures.result_value);
      kept = kept_solve ms a.w a.h a.work.now c.requires.1.images _ size _ q _ c.solve_work.auto.work c.solve_work.ensures.work_after;
    }
