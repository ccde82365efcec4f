-- `pgm2rec::words` takes each word once, in order, as long as it goes on. Assumes nothing.
use mathlib.Core.Path.{sym, ap, ◌∙◌}
use mathlib.Core.Bool.{true≢false}
use native.Mathlib.Omega.{arith}
use Rattle.pgm2rec.specs.declared.Run.{Run}
use Rattle.pgm2rec.proofs.Steps.{next_told}
use Rattle.pgm2rec.proofs.Walk.{walk_start, walk_more, walk_end}
use Rattle.pgm2rec.proofs.words.Goals as goal

pub loop-run-init : goal.loop-run-init
loop-run-init c = walk_start _ c.fresh-run.ensures

pub loop-run-smaller : goal.loop-run-smaller
loop-run-smaller c =
    let w = c.turn-run.ensures in
    let n = ap (λ (z : Run). z.next) w.1 ∙ next_told _ w.0 in
    omega (arith, n, c.loop-run-test.true)

pub loop-run-preserved : goal.loop-run-preserved
loop-run-preserved c = walk_more _ c.turn-run.ensures.0 c.loop-run.invariant c.if-run.true c.loop-run-test.true c.turn-run.ensures.1

pub returns-else-run : goal.returns-else-run
returns-else-run c = walk_end _ c.loop-run.invariant (λ e. absurd (true≢false (sym e ∙ c.if-run.false)))

pub returns-after-loop-run : goal.returns-after-loop-run
returns-after-loop-run c = walk_end _ c.loop-run.invariant (λ e. omega (arith, c.loop-run-test.false))
