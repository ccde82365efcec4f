-- `settings::side` is the scaled side, rounded and at least 8. Assumes nothing.
use mathlib.Core.Path.{◌≡◌, ap, ◌∙◌}
use Prim.Native.Nat.{◌≤◌}
use native.Mathlib.Nat.{le_trans, le_of_eq}
use native.Mathlib.Omega.{arith}
use lib.Ieee.{to_unsigned}
use Rattle.numbers.specs.Numbers.{round_of}
use Rattle.settings.specs.Sides.{scaled_side_of, side_of}
use Rattle.settings.proofs.Resizing.{rounded_most}
use Rattle.settings.proofs.side.Goals as goal

pub returns-then-v-lt8 : goal.returns-then-v-lt8
unfolding side_of
returns-then-v-lt8 c =
    let value_is : c.as_usize-v.result ≡ to_unsigned 64 (round_of (scaled_side_of c.args.edge c.args.long c.args.s)) =
    c.as_usize-v.ensures ∙ ap (to_unsigned 64) (c.round.ensures ∙ ap round_of c.scaled.ensures.0) in
    omega (arith, value_is)

pub returns-else-v-lt8 : goal.returns-else-v-lt8
unfolding side_of
returns-else-v-lt8 c =
    let value_is : c.as_usize-v.result ≡ to_unsigned 64 (round_of (scaled_side_of c.args.edge c.args.long c.args.s)) =
    c.as_usize-v.ensures ∙ ap (to_unsigned 64) (c.round.ensures ∙ ap round_of c.scaled.ensures.0) in
    let value_most : c.as_usize-v.result ≤ 4096 =
    let a = c.args in
    let p = c.requires in
    le_trans (le_of_eq value_is) (rounded_most a.edge a.long a.s p.0 p.1 p.2 p.3) in
    omega (arith, value_is, value_most)
