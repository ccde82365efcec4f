-- `zeros::fill_words` meets its contract. Assumes nothing.
use native.Mathlib.Omega.{arith}
use Rattle.std.proofs.Common.{length-take, length-drop}
use Rattle.lists.proofs.Copy.{part_filled}
use Rattle.zeros.proofs.fill_words.Goals as goal

pub returns : goal.returns
returns c = part_filled c.args.words.now 0 c.args.len c.args.len _ 0 _ (c.fill.ensures.after (λ _ e. e)) (simp (length-take, length-drop) (omega arith)) (omega arith)
