-- `scan::digits_at` reads digit after digit. Assumes nothing.
use mathlib.Core.Path.{◌≡◌, sym, ◌∙◌}
use native.Mathlib.Omega.{arith}
use Rattle.scan.proofs.Steps.{digit_low, read_none, read_end, read_stop, read_more}
use Rattle.scan.proofs.digits_at.Goals as goal

pub loop-next-init : goal.loop-next-init
loop-next-init c = record { read = read_none _ _ _ _ c.requires.0; within = omega arith }

pub returns-then-not-is_digit : goal.returns-then-not-is_digit
returns-then-not-is_digit c = read_stop c.loop-next.invariant.read (omega arith) (sym c.is_digit.ensures ∙ c.if-not-is_digit.true)

pub with-value-requires : goal.with-value-requires
with-value-requires c = (c.loop-next.invariant.read.small, c.requires.1, digit_low _ (sym c.is_digit.ensures ∙ c.if-not-is_digit.false))

pub loop-next-preserved : goal.loop-next-preserved
loop-next-preserved c = record {
  read = read_more c.loop-next.invariant.read (omega arith) (sym c.is_digit.ensures ∙ c.if-not-is_digit.false) c.with-value.ensures;
  within = omega arith;
}

pub returns : goal.returns
returns c = let m : c.max.result ≡ c.loop-next.next = omega arith in rw m (read_end c.loop-next.invariant.read (omega arith))
