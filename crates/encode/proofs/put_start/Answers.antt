-- `encode::put_start` puts the length, then the kind. Assumes nothing.
use native.Mathlib.Omega.{arith}
use Rattle.encode.specs.Bytes.{half_bytes, word_bytes, start_bytes}
use Rattle.lists.proofs.Put.{then_put}
use Rattle.encode.proofs.put_start.Goals as goal

pub returns : goal.returns
unfolding start_bytes word_bytes half_bytes
returns c = then_put c.args.out.now 0 (word_bytes _) 4 (half_bytes _) c.put_word.ensures c.put_half.ensures (omega arith) (omega (arith, c.requires))
