-- `pgm::put_pixels` puts pixel after pixel. Assumes nothing.
use native.Mathlib.Omega.{arith}
use Rattle.std.proofs.lemmas.Result.{err_from_is_err_and}
use Rattle.pgm.proofs.Founds.{found_by, none_by}
use Rattle.pgm.proofs.Raster.{filled_none, filled_end, filled_missing, filled_large, filled_more}
use Rattle.pgm.proofs.put_pixels.Goals as goal

pub loop-i-init : goal.loop-i-init
loop-i-init c = filled_none _ _ _ _ _ _

pub returns-in_err-d : goal.returns-in_err-d
returns-in_err-d c =
    let p = err_from_is_err_and c.from_residual.result c.from_residual.ensures.1 in
    let n = none_by c.pixel.result _ c.in_err-d.ensures.value in
    let m = filled_missing c.loop-i.invariant (omega arith) c.pixel.ensures n.0 in
    rw (p.1, p.2, n.1) m

pub returns-then-v-max : goal.returns-then-v-max
returns-then-v-max c = filled_large c.loop-i.invariant (omega arith) c.pixel.ensures _ (found_by c.pixel.result _ c.in_ok-d.ensures.value) c.if-v-max.true

pub loop-i-preserved : goal.loop-i-preserved
loop-i-preserved c = filled_more c.loop-i.invariant (omega arith) c.pixel.ensures _ (found_by c.pixel.result _ c.in_ok-d.ensures.value) c.if-v-max.false c.requires.0

pub returns : goal.returns
returns c = filled_end c.loop-i.invariant (omega arith)
