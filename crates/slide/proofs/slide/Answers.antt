-- `slide::slide` meets its contract: one case for each of its three ends. All marks lie between the pixels that are walked, and they are at most 2 ^ 24. Assumes nothing.
use Prim.Native.Nat.{◌*◌}
use mathlib.Core.Path.{◌∙◌}
use native.Mathlib.Nat.{mul-le-mul}
use native.Mathlib.Omega.{arith}
use Rattle.bits.specs.Words.{unpacked_of}
use Rattle.rows.proofs.Between.{rows_order, span_between}
use Rattle.slide.proofs.Ends.{no_inverse, no_lambda, one_lambda}
use Rattle.slide.proofs.slide.Goals as goal

pub pixels-span-requires : goal.pixels-span-requires
pixels-span-requires c =
    let a = c.args in
    let r = rows_order (unpacked_of a.marks.now (a.w * a.h)) a.w a.h a.rows c.requires.3 in
    (r.0, omega (arith, r.1, c.requires.0.h_most), c.requires.0.w_most)

pub project-sums-requires : goal.project-sums-requires
project-sums-requires c =
    let a = c.args in
    (mul-le-mul c.requires.0.w_most c.requires.0.h_most, c.requires.1, c.requires.2, span_between (unpacked_of a.marks.now (a.w * a.h)) a.w a.h a.rows c.requires.3 _ c.pixels-span.ensures)

pub returns-in_default : goal.returns-in_default
returns-in_default c = no_inverse _ _ _ _ _ _ _ _ _ c.project-sums.result.h c.project-sums.ensures.0 _ c.try_inverse2.ensures c.in_default.is

pub returns-in_default-lambda_of : goal.returns-in_default-lambda_of
returns-in_default-lambda_of c =
    no_lambda _ _ _ _ _ _ _ _ _ c.project-sums.result.h c.project-sums.ensures.0 _ _ c.try_inverse2.ensures c.in-Some.is _ _ c.project-sums.ensures.1 c.project-sums.ensures.2
    _ c.times2-iph.ensures _ _ c.dot2.ensures c.dot2-2.ensures _ c.lambda_of.ensures c.in_default-lambda_of.is

pub errors-error_proj-requires : goal.errors-error_proj-requires
errors-error_proj-requires c =
    let a = c.args in
    (mul-le-mul c.requires.0.w_most c.requires.0.h_most, c.requires.1, c.requires.2, span_between (unpacked_of a.marks.now (a.w * a.h)) a.w a.h a.rows c.requires.3 _ c.pixels-span.ensures)

pub returns : goal.returns
returns c =
    c.slid.ensures
    ∙ one_lambda _ _ _ _ _ _ _ _ _ c.project-sums.result.h c.project-sums.ensures.0 _ _ c.try_inverse2.ensures c.in-Some.is _ _ c.project-sums.ensures.1 c.project-sums.ensures.2
    _ c.times2-iph.ensures _ _ c.dot2.ensures c.dot2-2.ensures _ c.lambda_of.ensures _ c.in-Some-lambda_of.is _ _ c.errors-error_proj.ensures c.times2.ensures
