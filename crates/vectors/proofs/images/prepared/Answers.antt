-- `vectors::images::prepared` meets its contract. Assumes nothing.
use mathlib.Core.Path.{◌∙◌}
use native.Mathlib.Omega.{arith}
use Rattle.vectors.proofs.Stages.{prepared_told}
use Rattle.vectors.proofs.images.prepared.Goals as goal

pub returns : goal.returns
returns c =
    let s = c.in-Some.s in
    let t = c.in-Some-sides_at.t in
    c.same_floats.ensures ∙ prepared_told c.args.words.now c.in-Some.ensures c.in-Some-sides_at.ensures _ c.in-Some-filter.ensures _ _ _ (omega (arith, c.in-Some-sides_at.ensures.few)) c.bytes.ensures c.prepare.ensures
