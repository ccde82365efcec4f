-- `encode::put_settings` puts the start, then the four numbers. Assumes nothing.
use native.Mathlib.Omega.{arith}
use mathlib.Core.Path.{ap, ◌∙◌}
use mathlib.Core.List.{◌++◌, append_assoc}
use Rattle.lists.specs.Lists.{put}
use Rattle.encode.specs.Bytes.{half_bytes, word_bytes, start_bytes, settings_bytes}
use Rattle.lists.proofs.Put.{then_put}
use Rattle.encode.proofs.put_settings.Goals as goal

pub returns : goal.returns
unfolding settings_bytes start_bytes word_bytes half_bytes
returns c =
    let xs = c.args.out.now in
    let s = start_bytes 14 1 in
    let e = s ++ word_bytes c.args.eps in
    let i = e ++ word_bytes c.args.passes in
    let f = i ++ half_bytes c.args.filter in
    let p1 = then_put xs 0 s 6 (word_bytes _) c.put_start.ensures c.put_word.ensures (omega arith) (omega (arith, c.requires)) in
    let p2 = then_put xs 0 e 10 (word_bytes _) p1 c.put_word-2.ensures (omega arith) (omega (arith, c.requires)) in
    let p3 = then_put xs 0 i 14 (half_bytes _) p2 c.put_half.ensures (omega arith) (omega (arith, c.requires)) in
    then_put xs 0 f 16 (word_bytes _) p3 c.put_word-3.ensures (omega arith) (omega (arith, c.requires)) ∙ ap (put xs 0) (simp append_assoc)
