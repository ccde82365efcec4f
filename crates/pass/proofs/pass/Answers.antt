-- `pass::pass` meets its contract: too few marks, or what the rest of the pass says. Assumes nothing.
use Prim.Native.Nat.{◌*◌}
use native.Mathlib.Omega.{arith}
use Rattle.pass.specs.Kept.{Kept, KeptMarks}
use Rattle.pass.proofs.Stays.{kept_kept}
use Rattle.warp.proofs.Marks.{front}
use Rattle.pass.proofs.Front.{count_front, rows_front, kept_marks}
use Rattle.pass.proofs.Work.{kept_warp, weighed_there}
use Rattle.pass.proofs.Ends.{no_marks, few_marks, enough_marks}
use Rattle.pass.proofs.pass.Goals as goal

pub returns-in_default : goal.returns-in_default
returns-in_default c =
    let kept : let a = c.args in Kept (a.w * a.h) a.work.now c.warp_work-found.new.work =
    let a = c.args in
    kept_warp c.affine_from_theta_tx_ty-map.result a.w a.h a.work.now c.requires.1.images _ c.warp_work-found.ensures.work_after in
    let stay : let a = c.args in KeptMarks (a.w * a.h) a.marks.now c.warp_work-found.new.marks =
    kept_marks _ _ _ _ _ c.requires.1.places c.warp_work-found.ensures.marks_after in
    record { value = no_marks _ _ _ _ _ _ _ _ _ _ c.affine_from_theta_tx_ty-map.ensures _ c.warp_work-found.ensures.count_value.1 c.in_default.is; kept = (kept, stay) }

pub returns-then-found-lt16 : goal.returns-then-found-lt16
returns-then-found-lt16 c =
    let kept : let a = c.args in Kept (a.w * a.h) a.work.now c.warp_work-found.new.work =
    let a = c.args in
    kept_warp c.affine_from_theta_tx_ty-map.result a.w a.h a.work.now c.requires.1.images _ c.warp_work-found.ensures.work_after in
    let stay : let a = c.args in KeptMarks (a.w * a.h) a.marks.now c.warp_work-found.new.marks =
    kept_marks _ _ _ _ _ c.requires.1.places c.warp_work-found.ensures.marks_after in
    record { value = few_marks _ _ _ _ _ _ _ _ _ _ c.affine_from_theta_tx_ty-map.ensures _ c.warp_work-found.ensures.count_value.0 c.if-found-lt16.true; kept = (kept, stay) }

pub weigh-requires : goal.weigh-requires
weigh-requires c =
    let kept : let a = c.args in Kept (a.w * a.h) a.work.now c.warp_work-found.new.work =
    let a = c.args in
    kept_warp c.affine_from_theta_tx_ty-map.result a.w a.h a.work.now c.requires.1.images _ c.warp_work-found.ensures.work_after in
    let stay : let a = c.args in KeptMarks (a.w * a.h) a.marks.now c.warp_work-found.new.marks =
    kept_marks _ _ _ _ _ c.requires.1.places c.warp_work-found.ensures.marks_after in
    let q = c.requires in
    let e = c.warp_work-found.ensures in (
      q.0,
      record { images = omega (arith, kept.size, q.1.images); places = omega (arith, stay.size, q.1.places) },
      rows_front _ _ _ _ _ q.1.places e.marks_after _ _ e.count_value.1 c.in-Some.is,
      count_front _ _ _ _ _ q.1.places e.marks_after _ e.count_value.0,
      q.2,
    )

pub returns : goal.returns
returns c =
    let kept : let a = c.args in Kept (a.w * a.h) a.work.now c.warp_work-found.new.work =
    let a = c.args in
    kept_warp c.affine_from_theta_tx_ty-map.result a.w a.h a.work.now c.requires.1.images _ c.warp_work-found.ensures.work_after in
    let stay : let a = c.args in KeptMarks (a.w * a.h) a.marks.now c.warp_work-found.new.marks =
    kept_marks _ _ _ _ _ c.requires.1.places c.warp_work-found.ensures.marks_after in
    let a = c.args in
    let f = c.requires.1 in
    let m = c.warp_work-found.ensures in record {
      value = enough_marks _ _ _ _ _ _ _ _ _ _ c.affine_from_theta_tx_ty-map.ensures _ m.count_value.0 c.if-found-lt16.false
          _
          (weighed_there c.affine_from_theta_tx_ty-map.result a.w a.h a.work.now f.images _ m.work_after _ (front _ _ _ _ _ f.places m.marks_after) a.eps a.at a.last _ c.weigh.ensures.result_value);
      kept = (kept_kept kept c.weigh.ensures.kept, stay);
    }
