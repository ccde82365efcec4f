-- `bits::seen` meets its contract. Assumes nothing.
use mathlib.Core.Path.{sym, ◌∙◌}
use Rattle.lists.proofs.Cases.{pick_true, pick_false}
use Rattle.bits.proofs.Scan.{changed}
use Rattle.bits.proofs.seen.Goals as goal

pub returns-then-marked : goal.returns-then-marked
returns-then-marked c = λ s h. changed 64 c.args.word s c.ranges.word.fits h ∙ sym (pick_true _ _ _ c.if-marked.true)

pub returns-else-marked : goal.returns-else-marked
returns-else-marked c = λ s h. sym (pick_false _ _ _ c.if-marked.false)
