-- `calls::fill_marks` meets its contract. Assumes nothing.
use mathlib.Core.Path.{sym, ◌∙◌}
use Rattle.lists.proofs.Grow.{tab_const}
use Rattle.calls.specs.Calls.{word_before}
use Rattle.calls.proofs.fill_marks.Goals as goal

pub returns : goal.returns
returns c = c.fill.ensures.after (λ y e. e) ∙ sym (tab_const _ word_before)
