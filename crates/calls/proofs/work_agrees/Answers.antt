-- `calls::work_agrees` meets its contract. Assumes nothing.
use Rattle.std.proofs.Common.{rules, ◌∙◌, ℕ}
use borrow.Author.Tests.{tests}
use lib.Dec.{ltb, eqb}
use lib.Ieee.{Float, nan, binary32, to_bits}
use Rattle.std.proofs.lemmas.Iterator.{YieldsList-from_slice}
use Rattle.std.proofs.lemmas.Iterator.Consumers.{YieldsList-from_enumerate}
use Rattle.std.proofs.lemmas.Iterator.Search.{all_from_yields_List}
use Rattle.lists.specs.Marked.{pick}
use Rattle.floats.specs.F32.{0f}
use Rattle.words.proofs.Agree.{each_at}
use Rattle.calls.specs.Calls.{float_before, work_agrees}
use Rattle.calls.proofs.work_agrees.Goals as goal

pub returns : goal.returns
unfolding work_agrees
returns c =
    let p : ℕ × Float → _ = λ q. eqb (to_bits binary32 q.1) (to_bits binary32 (pick (ltb q.0 c.args.zeros) 0f (float_before q.0))) in
    all_from_yields_List p _ _ _ c.all.ensures.ran (YieldsList-from_enumerate (YieldsList-from_slice _ (cc)) (cc)) (λ x b q k. search (rules, tests))
    ∙ each_at p nan _
