-- `vectors::passes::centred` meets its contract. Assumes nothing.
use mathlib.Core.Path.{sym, ◌∙◌}
use native.Mathlib.Omega.{arith}
use borrow.Author.Rules.{rules}
use borrow.Author.Tests.{le-leb, lt-leb}
use Rattle.vectors.proofs.Tests.{and_passed, first_failed}
use Rattle.vectors.proofs.Parts.{found_told, stats_told, stats_agree_lem}
use Rattle.vectors.proofs.passes.centred.Goals as goal

pub returns-then-w-gt1024 : goal.returns-then-w-gt1024
returns-then-w-gt1024 c =
    let n = c.word-w in
    sym (first_failed _ (lt-leb n.result 1024 c.if-w-gt1024.true)) ∙ stats_agree_lem c.args.words.now n.result n.ensures

pub centered_stats_in_place-r-requires : goal.centered_stats_in_place-r-requires
centered_stats_in_place-r-requires c = (
  search rules,
  found_told c.args.words.now c.word-w.result c.if-w-gt1024.false _ _ _ c.bytes.ensures (search rules) c.packed.ensures _ c.count-found.ensures,
  search rules,
  search rules,
  record { order = omega arith; inside = omega arith; before = λ i l. absurd (omega arith); behind = λ i l m. absurd (omega arith) },
)

pub returns : goal.returns
returns c =
    let words = c.args.words.now in
    let few = c.if-w-gt1024.false in
    and_passed (le-leb _ 1024 few) (
    c.told_marked.ensures
    ∙ stats_told words c.word-w.result few _ _ _ c.bytes.ensures (search rules) c.packed.ensures
    _ _ _ _ _ (search rules) c.floats.ensures c.floats-2.ensures c.centered_stats_in_place-r.ensures (omega (arith, few, c.centered_stats_in_place-r.auto.part, c.floats-2.auto.out, c.floats.auto.out))
    )
    ∙ stats_agree_lem words c.word-w.result c.word-w.ensures
