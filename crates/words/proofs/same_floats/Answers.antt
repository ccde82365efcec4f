-- `words::same_floats` meets its contract. Assumes nothing.
use Rattle.std.proofs.Common.{rules, arith, ◌∙◌, ◌≡◌, ◌+◌, ◌-◌, ℕ, take, drop}
use borrow.Author.Tests.{tests}
use lib.Ieee.{Float, nan}
use Rattle.std.proofs.lemmas.Iterator.{YieldsList-from_slice}
use Rattle.std.proofs.lemmas.Iterator.Consumers.{YieldsList-from_enumerate}
use Rattle.std.proofs.lemmas.Iterator.Search.{all_from_yields_List}
use Rattle.words.specs.Words.{stored_at, has_bits, floats_agree}
use Rattle.words.proofs.Agree.{each_at}
use Rattle.words.proofs.same_floats.Goals as goal

pub returns : goal.returns
unfolding floats_agree
returns c =
    let a = c.args in
    let n : a.at + a.n - a.at ≡ a.n = omega arith in
    let p : ℕ × Float → _ = λ q. has_bits q.1 (stored_at c.args.words.now (c.args.from + q.0)) in
    all_from_yields_List p _ _ _ c.all.ensures.ran (YieldsList-from_enumerate (YieldsList-from_slice (take a.n (drop a.at a.xs.now)) (grind (arith, n))) (cc)) (λ x b q k. search (rules, tests))
    ∙ each_at p nan _
