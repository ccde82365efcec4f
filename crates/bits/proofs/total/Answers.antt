-- `bits::total` meets its contract. Assumes nothing.
use Rattle.std.proofs.Common.{◌≡◌, ℕ, ◌+◌, ◌-◌, ◌^◌, ◌<◌, get_or, ap₂, ◌∙◌, arith}
use Rattle.std.proofs.lemmas.List.{get_or-take, get_or-drop, length-take}
use Rattle.bits.proofs.Packing.{total_more}
use Rattle.bits.proofs.total.Goals as goal

pub loop-flag-preserved : goal.loop-flag-preserved
loop-flag-preserved c =
    let a = c.args in
    let i = c.loop-flag.flag-index in
    let few : get_or a.flags.now (a.at + i) 0 < 2 ^ 32 = (c.type_inv.flags (a.at + i)).fits in
    let inside : i < a.at + a.len - a.at = omega (arith, length-take {A = ℕ}) in
    let is : c.from-sum.result ≡ get_or a.flags.now (a.at + i) 0 =
    c.from-sum.ensures ∙ get_or-take _ _ _ _ inside ∙ get_or-drop a.at a.flags.now i 0 in
    (omega (arith, few, is), ap₂ ◌+◌ c.loop-flag.invariant.1 is ∙ total_more a.flags.now a.at i)
