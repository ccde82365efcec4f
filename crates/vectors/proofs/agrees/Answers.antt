-- `vectors::agrees` meets its contract. Assumes nothing.
use mathlib.Core.Path.{sym, ◌∙◌}
use Rattle.vectors.proofs.Asked.{to_two, to_six, no_kind}
use Rattle.vectors.proofs.agrees.Goals as goal

pub returns-in_default : goal.returns-in_default
returns-in_default c = no_kind _ c.in_default.ensures _ c.word.ensures

pub cos-requires : goal.cos-requires
cos-requires c = to_two _ (sym c.turns.ensures ∙ c.if-turns.true)

pub sin-requires : goal.sin-requires
sin-requires c = to_two _ (sym c.turns-in-Sin.ensures ∙ c.if-turns-2.true)

pub exp_neg-requires : goal.exp_neg-requires
exp_neg-requires c = to_six _ (sym c.fades.ensures ∙ c.if-fades.true)
