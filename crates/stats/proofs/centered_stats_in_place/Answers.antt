-- `stats::centered_stats_in_place` meets its contract. The loop's invariant: only the images 4 and 5 have changed, there the marked places that the walk has passed hold the
-- centred numbers, and the three sums are those over these places. Assumes nothing.
use mathlib.Core.Path.{◌≡◌, ◌∙◌}
use borrow.Author.Rules.{rules}
use Rattle.bits.proofs.Walks.{along_turn, along_end}
use Rattle.stats.proofs.Filling.{filled}
use Rattle.stats.proofs.Centring.{centred_none, three_none, centred_all, three_all, centred_turn, three_turn, centred_end}
use Rattle.stats.proofs.centered_stats_in_place.Goals as goal

pub loop-r-init : goal.loop-r-init
loop-r-init c =
    let o = c.requires.4 in
    let e : c.into_iter-r-iterator.result.at ≡ c.args.from = search rules in
    (record { words = search rules; end = search rules }, rw e (centred_none _ _ _ _ _ _ o), rw e (three_none _ _ _ _ _ _ o))

pub loop-r-preserved : goal.loop-r-preserved
unfolding filled
loop-r-preserved c =
    let l = c.loop-r in
    let turn = along_turn c.args.marks.now c.args.to _ _ _ l.invariant.0 c.in-Some.ensures.steps in
    let q = c.centred_stretch-s.ensures in (
      turn.on,
      rw turn.behind (centred_turn _ _ _ _ c.requires.2 c.args.to _ _ c.requires.4.inside turn.here l.part l.invariant.1 _ q.part_after),
      rw turn.behind (three_turn _ _ _ _ c.requires.2 c.args.to _ _ c.requires.4.inside turn.here l.part l.invariant.1 l.s l.invariant.2 _ q.result_value),
    )

pub returns : goal.returns
returns c =
    let l = c.loop-r in
    let e = along_end c.args.marks.now c.args.to _ c.next.new.self l.invariant.0 c.in-None.ensures.steps in
    let o = c.requires.4 in
    centred_end _ _ _ c.requires.2 _ c.means_over_mask-mean.ensures l.part (centred_all _ _ _ _ _ _ o l.part (rw e at l.invariant.1)) l.s (rw e at l.invariant.2 ∙ three_all _ _ _ _ _ _ o) _ _ c.sqrt.ensures.value c.sqrt-2.ensures.value
