-- `middle::settled` meets its contract. Assumes nothing.
use mathlib.Core.Path.{sym, ap, ◌∙◌}
use mathlib.Core.Bool.{true, false}
use Prim.Native.Nat.{◌≤◌, ◌<◌}
use native.Mathlib.Omega.{arith}
use mir.Syntax.{w16}
use mir.ValLaws.{to_z-of_z}
use Rattle.std.proofs.lemmas.Grind.{common_steps}
use Rattle.middle.specs.Held.{capped_of}
use Rattle.middle.specs.Wide.{wide_of}
use Rattle.middle.proofs.Nearest.{scaled_back, scaled_ahead}
use Rattle.middle.proofs.settled.Goals as goal

pub returns-then-lt : goal.returns-then-lt
returns-then-lt c =
    let behind : wide_of c.args.x < wide_of c.args.y = grind (arith, common_steps) in
    to_z-of_z w16 c.held.result (record { sfits = c.held.type_inv }) ∙ c.held.ensures ∙ ap (capped_of true) c.rounded.ensures ∙ sym (scaled_back _ _ behind)

pub returns : goal.returns
returns c =
    let ahead : wide_of c.args.y ≤ wide_of c.args.x = grind (arith, common_steps) in
    to_z-of_z w16 c.held-2.result (record { sfits = c.held-2.type_inv }) ∙ c.held-2.ensures ∙ ap (capped_of false) c.rounded-2.ensures ∙ sym (scaled_ahead _ _ ahead)
