-- `encode::put_head` puts the start, then both sides. The area of sides that fit 16 bits fits 32. Assumes nothing.
use Prim.Native.Nat.{◌+◌, ◌*◌}
use native.Mathlib.Omega.{arith}
use mathlib.Core.Path.{ap, ◌∙◌}
use mathlib.Core.List.{◌++◌, append_assoc}
use Rattle.lists.specs.Lists.{put}
use Rattle.encode.specs.Bytes.{half_bytes, word_bytes, start_bytes, head_bytes}
use Rattle.lists.proofs.Put.{then_put}
use Rattle.encode.proofs.Pieces.{area}
use Rattle.encode.proofs.put_head.Goals as goal

pub overflow_mul-w : goal.overflow_mul-w
overflow_mul-w c = record { fits = omega (arith, area c.args.w c.args.h c.requires.1 c.requires.2) }

pub overflow_add-w : goal.overflow_add-w
overflow_add-w c = record { fits = omega (arith, area c.args.w c.args.h c.requires.1 c.requires.2) }

pub put_start-requires : goal.put_start-requires
put_start-requires c = (omega (arith, c.requires.0), omega (arith, area c.args.w c.args.h c.requires.1 c.requires.2))

pub returns : goal.returns
unfolding head_bytes start_bytes word_bytes half_bytes
returns c =
    let xs = c.args.out.now in
    let s = start_bytes (4 + c.args.w * c.args.h) 2 in
    let p = then_put xs 0 s 6 (half_bytes _) c.put_start.ensures c.put_half.ensures (omega arith) (omega (arith, c.requires)) in
    then_put xs 0 (s ++ half_bytes c.args.w) 8 (half_bytes _) p c.put_half-2.ensures (omega arith) (omega (arith, c.requires)) ∙ ap (put xs 0) (append_assoc s (half_bytes c.args.w) (half_bytes c.args.h))
