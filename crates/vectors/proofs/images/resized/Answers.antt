-- `vectors::images::resized` meets its contract. Assumes nothing.
use mathlib.Core.Path.{◌∙◌}
use Rattle.vectors.proofs.Stages.{resize_told}
use Rattle.vectors.proofs.images.resized.Goals as goal

pub returns : goal.returns
returns c =
    let s = c.in-Some.s in
    let t = c.in-Some-sides_at.t in
    c.same_floats.ensures ∙ resize_told c.args.words.now c.in-Some.ensures c.in-Some-sides_at.ensures _ _ _ c.bytes.ensures c.resize_bilinear.ensures
