-- `vectors::passes::rows_marked` meets its contract. Assumes nothing.
use mathlib.Core.Path.{◌∙◌}
use native.Mathlib.Omega.{arith}
use Rattle.vectors.proofs.Parts.{rows_told_lem}
use Rattle.vectors.proofs.passes.rows_marked.Goals as goal

pub returns : goal.returns
returns c =
    let f = c.in-Some.ensures in
    c.rows_told.ensures
    ∙ rows_told_lem c.args.words.now f _ _ _ c.bytes.ensures (omega (arith, f.few)) c.packed.ensures _ c.marked_rows.ensures
