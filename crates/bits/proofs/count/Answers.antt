-- `bits::count` meets its contract. Assumes nothing.
use Rattle.std.proofs.Common.{ℕ, ◌+◌, ◌≤◌, ap, ◌∙◌, arith, get_or}
use Rattle.std.proofs.lemmas.Nat.{ones-le}
use lib.Count.{ones}
use Rattle.bits.proofs.Words.{ones_more, taken}
use Rattle.bits.proofs.count.Goals as goal

pub loop-word-preserved : goal.loop-word-preserved
loop-word-preserved c =
    let i = c.loop-word.word-index in
    let ws = c.args.words.now in
    let few : ones (get_or ws i 0) ≤ 64 = ones-le 64 _ (c.type_inv.words i).fits in
    rw (taken _ ws i c.loop-word-test.true) (ap (λ (z : ℕ). z + ones (get_or ws i 0)) c.loop-word.invariant.0 ∙ ones_more ws i, omega (arith, few))
