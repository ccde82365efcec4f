-- `stream::over` meets its contract. Assumes nothing.
use mathlib.Core.Path.{sym, ◌∙◌}
use Rattle.stream.proofs.ReadOver.{over_none, over_part, over_large, over_other}
use Rattle.stream.proofs.over.Goals as goal

pub returns-then-n-eq0 : goal.returns-then-n-eq0
returns-then-n-eq0 c =
    let a = c.args in sym (over_none a.state a.n c.if-n-eq0.true)

pub returns-then-n-state : goal.returns-then-n-state
returns-then-n-state c =
    let a = c.args in sym (over_part a.state a.n c.if-n-eq0.false c.if-n-state.true)

pub returns-then-state : goal.returns-then-state
returns-then-state c =
    let a = c.args in c.passed.ensures ∙ sym (over_large a.state a.n c.if-n-eq0.false c.if-n-state.false c.if-state.true)

pub returns : goal.returns
returns c =
    let a = c.args in sym (over_other a.state a.n c.if-n-eq0.false c.if-n-state.false c.if-state.false)
