-- `words::same_bytes` meets its contract. Assumes nothing.
use Rattle.std.proofs.Common.{rules, ◌∙◌, ◌+◌, ◌%◌, ℕ}
use borrow.Author.Tests.{tests}
use lib.Dec.{eqb}
use Rattle.std.proofs.lemmas.Iterator.{YieldsList-from_slice}
use Rattle.std.proofs.lemmas.Iterator.Consumers.{YieldsList-from_enumerate}
use Rattle.std.proofs.lemmas.Iterator.Search.{all_from_yields_List}
use Rattle.words.specs.Words.{stored_at, bytes_agree}
use Rattle.words.proofs.Agree.{each_at}
use Rattle.words.proofs.same_bytes.Goals as goal

pub returns : goal.returns
unfolding bytes_agree
returns c =
    let p : ℕ × ℕ → _ = λ q. eqb q.1 (stored_at c.args.words.now (c.args.from + q.0) % 256) in
    all_from_yields_List p _ _ _ c.all.ensures.ran (YieldsList-from_enumerate (YieldsList-from_slice _ (cc)) (cc)) (λ x b q k. search (rules, tests))
    ∙ each_at p 0 _
