-- `vectors::passes::warped` meets its contract. Assumes nothing.
use mathlib.Core.Path.{◌∙◌}
use native.Mathlib.Omega.{arith}
use Rattle.vectors.proofs.Parts.{warp_told}
use Rattle.vectors.proofs.passes.warped.Goals as goal

pub returns : goal.returns
returns c =
    let f = c.in-Some.ensures in
    c.told.ensures
    ∙ warp_told c.args.words.now f _ _ _ _ _ _ _ _ _ (omega (arith, f.few)) (omega (arith, f.few))
    c.floats.ensures c.map_at.ensures c.warp_three_inverse_map-found.ensures c.unpacked.ensures
