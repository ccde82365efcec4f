-- `encode::put_half` copies two bytes. Assumes nothing.
use mathlib.Core.Path.{◌∙◌}
use native.Mathlib.Omega.{arith}
use Rattle.encode.specs.Bytes.{half_bytes}
use Rattle.encode.proofs.Pieces.{low_half, copied}
use Rattle.encode.proofs.put_half.Goals as goal

pub returns : goal.returns
unfolding half_bytes
returns c = copied c.args.out.now c.args.at _ (half_bytes c.args.n) (c.copy_from_slice.ensures.after ∙ c.to_le_bytes.ensures ∙ low_half c.args.n) (omega arith)
