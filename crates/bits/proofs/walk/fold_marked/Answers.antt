-- `bits::fold_marked` meets its contract. Assumes nothing.
use mathlib.Core.Path.{◌≡◌, refl, ◌∙◌}
use native.Mathlib.Omega.{arith}
use borrow.Author.Rules.{rules}
use Rattle.bits.proofs.Stretches.{stretch_turn}
use Rattle.bits.proofs.Walks.{along_turn, along_end}
use Rattle.bits.proofs.walk.fold_marked.Goals as goal

pub loop-r-init : goal.loop-r-init
loop-r-init g c =
    let e : c.into_iter-r-iterator.result.at ≡ c.args.from = search rules in
    (record { words = search rules; end = search rules }, λ n f z l h s. rw e s)

pub loop-r-preserved : goal.loop-r-preserved
loop-r-preserved g c =
    let l = c.loop-r in
    let turn = along_turn c.args.words.now c.args.to _ _ _ l.invariant.0 c.in-Some.ensures.steps in (
      turn.on,
      λ n f z few h s.
          rw turn.behind (
          c.fold_range-t.ensures f (λ u k r i p. h u k r (omega (arith, turn.here.high)) p)
          ∙ stretch_turn c.args.words.now n c.args.to _ _ few turn.here f f z l.t (l.invariant.1 n f z few h s) (λ u k i. refl)
          ),
    )

pub returns : goal.returns
returns g c =
    let l = c.loop-r in
    let e = along_end c.args.words.now c.args.to _ c.next.new.self l.invariant.0 c.in-None.ensures.steps in
    λ n f z few h s. rw e at (l.invariant.1 n f z few h s)
