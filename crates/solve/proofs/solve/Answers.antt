-- `solve::solve` meets its contract: one case for each of its three ends. Assumes nothing.
use Prim.Native.Nat.{◌*◌}
use mathlib.Core.Path.{◌∙◌}
use native.Mathlib.Nat.{mul-le-mul}
use native.Mathlib.Omega.{arith}
use Rattle.bits.specs.Words.{unpacked_of}
use Rattle.rows.proofs.Between.{rows_order, span_between}
use Rattle.solve.proofs.Ends.{no_inverse, no_lambda, one_lambda}
use Rattle.solve.proofs.Steep.{steep_end}
use Rattle.solve.proofs.solve.Goals as goal

pub pixels-span-requires : goal.pixels-span-requires
pixels-span-requires c =
    let a = c.args in
    let r = rows_order (unpacked_of a.marks.now (a.w * a.h)) a.w a.h a.rows c.requires.3 in
    (r.0, omega (arith, r.1, c.requires.0.h_most), c.requires.0.w_most)

pub steep-requires : goal.steep-requires
steep-requires c =
    let a = c.args in
    let r = rows_order (unpacked_of a.marks.now (a.w * a.h)) a.w a.h a.rows c.requires.3 in
    (c.requires.0.w_most, c.requires.0.h_most, r.0, r.1, c.requires.1, c.requires.4)

pub project-sums-requires : goal.project-sums-requires
project-sums-requires c =
    let a = c.args in
    let spans = span_between (unpacked_of a.marks.now (a.w * a.h)) a.w a.h a.rows c.requires.3 _ c.pixels-span.ensures in
    (mul-le-mul c.requires.0.w_most c.requires.0.h_most, omega (arith, c.steep.auto.part, c.requires.1), c.requires.2, spans)

pub returns-in_default : goal.returns-in_default
returns-in_default c =
    let a = c.args in
    let p = c.project-sums in
    let end = no_inverse _ _ _ _ _ _ _ _ _ _ p.result.h p.ensures.0 _ c.try_inverse.ensures c.in_default.is in
    let t = steep_end _ a.w a.h a.rows c.requires.3 _ _ _ c.steep.ensures c.requires.1 a.at a.s a.rho _ end in
    record { part_after = t.0; value = t.1 }

pub returns-in_default-lambda_of : goal.returns-in_default-lambda_of
returns-in_default-lambda_of c =
    let a = c.args in
    let p = c.project-sums in
    let end =
    no_lambda _ _ _ _ _ _ _ _ _ _ p.result.h p.ensures.0 _ _ c.try_inverse.ensures c.in-Some.is _ _ p.ensures.1 p.ensures.2 _ c.times-iph.ensures _ _ c.dot.ensures c.dot-2.ensures
    _ c.lambda_of.ensures c.in_default-lambda_of.is in
    let t = steep_end _ a.w a.h a.rows c.requires.3 _ _ _ c.steep.ensures c.requires.1 a.at a.s a.rho _ end in
    record { part_after = t.0; value = t.1 }

pub errors-error_proj-requires : goal.errors-error_proj-requires
errors-error_proj-requires c =
    let a = c.args in
    let spans = span_between (unpacked_of a.marks.now (a.w * a.h)) a.w a.h a.rows c.requires.3 _ c.pixels-span.ensures in
    (mul-le-mul c.requires.0.w_most c.requires.0.h_most, omega (arith, c.steep.auto.part, c.requires.1), c.requires.2, spans)

pub shape_of-part : goal.shape_of-part
shape_of-part c = c.steep.auto.part

pub returns : goal.returns
returns c =
    let a = c.args in
    let p = c.project-sums in
    let end =
    c.moved.ensures
    ∙ one_lambda _ _ _ _ _ _ _ _ _ _ p.result.h p.ensures.0 _ _ c.try_inverse.ensures c.in-Some.is _ _ p.ensures.1 p.ensures.2 _ c.times-iph.ensures _ _ c.dot.ensures c.dot-2.ensures
    _ c.lambda_of.ensures _ c.in-Some-lambda_of.is _ _ c.errors-error_proj.ensures c.times.ensures in
    let t = steep_end _ a.w a.h a.rows c.requires.3 _ _ _ c.steep.ensures c.requires.1 a.at a.s a.rho _ end in
    record { part_after = t.0; value = t.1 }
