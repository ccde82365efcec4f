-- `pgm::start`: white space behind the header lies within the bytes, so the next index fits. Assumes nothing.
use mathlib.Core.Path.{sym, ap, ◌∙◌}
use native.Mathlib.Omega.{arith}
use Rattle.pgm.specs.Pgm.{blank}
use Rattle.pgm.proofs.Tests.{blank_within}
use Rattle.pgm.proofs.start.Goals as goal

pub overflow_add-result : goal.overflow_add-result
overflow_add-result c =
    let a = c.args in omega (arith, blank_within a.s.now a.at (ap blank (sym c.byte_at.ensures) ∙ sym c.is_blank.ensures ∙ c.if-not-is_blank.false))
