-- `pgm::skip` goes byte after byte. Assumes nothing.
use mathlib.Core.Path.{◌≡◌, refl, sym, ◌∙◌}
use native.Mathlib.Omega.{arith}
use Rattle.pgm.proofs.Gap.{gap_end, gap_stop, gap_more}
use Rattle.pgm.proofs.skip.Goals as goal

pub loop-i-init : goal.loop-i-init
loop-i-init c = record { skipped = record { to = refl }; within = omega arith }

pub returns-then-not-is_between : goal.returns-then-not-is_between
returns-then-not-is_between c = gap_stop c.loop-i.invariant.skipped (omega arith) (sym c.is_between.ensures ∙ c.if-not-is_between.true)

pub loop-i-preserved : goal.loop-i-preserved
loop-i-preserved c = record {
  skipped = gap_more c.loop-i.invariant.skipped (omega arith) (sym c.is_between.ensures ∙ c.if-not-is_between.false) c.is_open-in_comment.ensures;
  within = omega arith;
}

pub returns : goal.returns
returns c = let m : c.max.result ≡ c.loop-i.i = omega arith in m ∙ gap_end c.loop-i.invariant.skipped (omega arith)
