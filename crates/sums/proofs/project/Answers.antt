-- `sums::project` meets its contract. Assumes nothing.
use mathlib.Core.Path.{◌≡◌}
use native.Mathlib.Omega.{arith}
use borrow.Author.Rules.{rules}
use lib.Ieee.{nan}
use lib.ListN.{get_or-replicate}
use Rattle.bits.proofs.Walks.{along_turn, along_end}
use Rattle.sums.proofs.Folds.{sums_none, sums_stretch, sums_end}
use Rattle.sums.proofs.project.Goals as goal

pub loop-r-init : goal.loop-r-init
loop-r-init c =
    let e : c.into_iter-r-iterator.result.at ≡ c.args.from = search rules in
    (record { words = search rules; end = search rules }, rw e (sums_none _ _ _ _ _ _ c.requires.3 _ (λ k h. get_or-replicate 272 k _ nan (omega arith))))

pub loop-r-preserved : goal.loop-r-preserved
loop-r-preserved c =
    let l = c.loop-r in
    let a = c.args in
    let turn = along_turn a.marks.now a.to _ _ _ l.invariant.0 c.in-Some.ensures.steps in
    (turn.on, rw turn.behind (sums_stretch a.marks.now a.n a.part.now _ a.to _ _ c.requires.3.inside turn.here l.m _ l.invariant.1 c.project_stretch.ensures))

pub returns : goal.returns
returns c =
    let l = c.loop-r in
    let a = c.args in
    let e = along_end a.marks.now a.to _ c.next.new.self l.invariant.0 c.in-None.ensures.steps in
    sums_end a.marks.now a.n a.part.now _ a.from a.to c.requires.3 l.m (rw e at l.invariant.1) _ _ _ _ c.read_four-a.ensures c.read_four-b.ensures c.read_four-c.ensures c.read_four-d.ensures
