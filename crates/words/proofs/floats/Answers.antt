-- `words::floats` meets its contract. Assumes nothing.
use mathlib.Core.Path.{◌≡◌, ap, ◌∙◌}
use native.Mathlib.Omega.{arith}
use Rattle.lists.proofs.Fill.{fill_none, fill_more}
use Rattle.words.specs.Words.{float_of, floats_at}
use Rattle.words.proofs.floats.Goals as goal

pub loop-i-init : goal.loop-i-init
loop-i-init c = fill_none _ _ _

pub loop-i-preserved : goal.loop-i-preserved
loop-i-preserved c =
    let l = c.loop-i in
    let a = c.args in
    rw l.invariant (fill_more a.out.now a.at _ l.i _ (omega arith) (c.float.ensures ∙ ap float_of c.word_after.ensures))

pub returns : goal.returns
unfolding floats_at
returns c =
    let end : c.loop-i.i ≡ c.args.n = omega arith in
    rw end at c.loop-i.invariant
