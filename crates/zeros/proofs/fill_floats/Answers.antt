-- `zeros::fill_floats` meets its contract. Assumes nothing.
use native.Mathlib.Omega.{arith}
use Rattle.std.proofs.Common.{length-take, length-drop}
use Rattle.lists.proofs.Copy.{part_filled}
use Rattle.floats.specs.F32.{0f}
use Rattle.zeros.proofs.fill_floats.Goals as goal

pub returns : goal.returns
returns c = part_filled c.args.part.now c.args.dst _ c.args.len _ 0f _ (c.fill.ensures.after (λ _ e. e)) (simp (length-take, length-drop) (omega arith)) (omega arith)
