-- `options::stands` looks at what follows an index. Assumes nothing.
use Prim.Native.Nat.{ℕ, ◌-◌}
use mathlib.Core.Path.{ap, ◌∙◌}
use mathlib.Core.List.{List}
use native.Mathlib.Omega.{arith}
use lib.ListN.{length, drop, length-drop}
use lib.Seq.{take_all}
use Rattle.options.specs.Words.{begins}
use Rattle.options.proofs.Prefix.{begins_is}
use Rattle.options.proofs.stands.Goals as goal

pub returns : goal.returns
returns c =
    let a = c.args in
    let s = a.s.now in
    c.starts_with.ensures.value ∙ begins_is _ a.p.now ∙ ap (λ (z : List ℕ). begins z a.p.now) (take_all (length s - a.at) (drop a.at s) (omega (arith, length-drop a.at s)))
