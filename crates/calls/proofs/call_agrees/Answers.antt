-- `calls::call_agrees` meets its contract. Assumes nothing.
use mathlib.Core.Path.{◌∙◌}
use lib.Seq.{length-take-le}
use Rattle.calls.proofs.Told.{call_told}
use Rattle.calls.proofs.call_agrees.Goals as goal

pub returns : goal.returns
returns c = c.called.ensures ∙ call_told c.args.words.now c.in-Some.ensures c.bytes.ensures c.bytes-2.ensures (length-take-le _ _ c.in-Some.ensures.work_fits) (length-take-le _ _ c.in-Some.ensures.marks_fit)
