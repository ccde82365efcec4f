-- `calls::marks_agree` meets its contract. Assumes nothing.
use Rattle.std.proofs.Common.{rules, ◌∙◌, ℕ}
use borrow.Author.Tests.{tests}
use lib.Dec.{ltb, eqb}
use Rattle.std.proofs.lemmas.Iterator.{YieldsList-from_slice}
use Rattle.std.proofs.lemmas.Iterator.Consumers.{YieldsList-from_enumerate}
use Rattle.std.proofs.lemmas.Iterator.Search.{all_from_yields_List}
use Rattle.lists.specs.Marked.{pick}
use Rattle.words.proofs.Agree.{each_at}
use Rattle.calls.specs.Calls.{word_before, marks_agree}
use Rattle.calls.proofs.marks_agree.Goals as goal

pub returns : goal.returns
unfolding marks_agree
returns c =
    let p : ℕ × ℕ → _ = λ q. eqb q.1 (pick (ltb q.0 c.args.zeros) 0 word_before) in
    all_from_yields_List p _ _ _ c.all.ensures.ran (YieldsList-from_enumerate (YieldsList-from_slice _ (cc)) (cc)) (λ x b q k. search (rules, tests))
    ∙ each_at p 0 _
