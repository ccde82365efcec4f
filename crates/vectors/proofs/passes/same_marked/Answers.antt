-- `vectors::passes::same_marked` meets its contract. Assumes nothing.
use mathlib.Core.Path.{refl, ◌∙◌}
use mathlib.Core.Bool.{Bool, true}
use Prim.Native.Nat.{ℕ, ◌+◌}
use native.Mathlib.Omega.{arith}
use lib.ListN.{get_or}
use lib.Ieee.{nan}
use borrow.Author.Rules.{rules}
use borrow.Author.Tests.{tests}
use Rattle.std.proofs.lemmas.Iterator.{YieldsList-from_range}
use Rattle.std.proofs.lemmas.Iterator.Search.{all_from_yields_List}
use Rattle.lists.specs.Marked.{pick}
use Rattle.marks.specs.Marks.{on}
use Rattle.words.specs.Words.{stored_at, has_bits}
use Rattle.words.proofs.Agree.{each_below}
use Rattle.vectors.proofs.Marked.{marked_run}
use Rattle.vectors.proofs.passes.same_marked.Goals as goal

pub returns : goal.returns
unfolding pick
returns c =
    let a = c.args in
    let p : ℕ → Bool = λ i. pick (on a.marks.now i) (has_bits (get_or a.xs.now (a.at + i) nan) (stored_at a.words.now (a.from + i))) true in
    all_from_yields_List p _ _ _ c.all.ensures.ran (YieldsList-from_range 0 a.n a.n refl (omega arith)) (λ x b q k. search (rules, tests, arith))
    ∙ each_below a.n p
    ∙ marked_run a.marks.now a.words.now a.from a.n a.xs.now a.at c.requires.3
