-- `vectors::passes::packed` meets its contract. Assumes nothing.
use borrow.Author.Rules.{rules}
use Rattle.vectors.proofs.Packing.{flags_made, words_made}
use Rattle.vectors.proofs.passes.packed.Goals as goal

pub pack-requires : goal.pack-requires
pack-requires c = (search rules, search rules, search rules, flags_made c.args.marks.now _ _ _ (search rules) c.flagged.ensures)

pub returns : goal.returns
returns c =
    let a = c.args in
    words_made a.marks.now _ _ a.n (search rules) c.flagged.ensures a.out.now _ _ c.requires.2 c.fill_words.ensures c.pack.ensures
