-- `driver::capped` meets its contract: what `round` leaves is a whole number, and the cast holds it. Assumes nothing.
use Rattle.std.proofs.Common.{T, sym, ◌∙◌, subst, w16}
use mir.ValLaws.{to_z-of_z}
use Rattle.driver.proofs.Whole.{Rounded, rounded, held}
use Rattle.driver.proofs.capped.Goals as goal

pub returns : goal.returns
returns c =
    let n = subst (Rounded c.args.x) (sym c.round-v.ensures) (rounded c.args.x (subst T (sym c.well_formed.0.1) tt) c.requires) in
    to_z-of_z w16 c.held.result (record { sfits = c.held.type_inv }) ∙ c.held.ensures ∙ held c.round-v.result n.s n.q n.whole ∙ n.is
