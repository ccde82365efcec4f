-- `encode::put_word` copies four bytes. Assumes nothing.
use mathlib.Core.Path.{◌∙◌}
use native.Mathlib.Omega.{arith}
use Rattle.encode.specs.Bytes.{half_bytes, word_bytes}
use Rattle.encode.proofs.Pieces.{low_word, copied}
use Rattle.encode.proofs.put_word.Goals as goal

pub returns : goal.returns
unfolding word_bytes half_bytes
returns c = copied c.args.out.now c.args.at _ (word_bytes c.args.n) (c.copy_from_slice.ensures.after ∙ c.to_le_bytes.ensures ∙ low_word c.args.n) (omega arith)
