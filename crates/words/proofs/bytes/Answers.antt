-- `words::bytes` meets its contract. Assumes nothing.
use mathlib.Core.Path.{◌≡◌, sym, ap, ◌∙◌}
use Prim.Native.Nat.{ℕ, ◌+◌, ◌%◌}
use native.Mathlib.Omega.{arith}
use lib.ListN.{length}
use lib.Seq.{take-length}
use Rattle.lists.specs.Lists.{tab}
use Rattle.lists.proofs.Grow.{tab_zero}
use Rattle.lists.proofs.Fill.{front_turn}
use Rattle.words.specs.Words.{stored_at, bytes_at}
use Rattle.words.proofs.bytes.Goals as goal

pub loop-i-init : goal.loop-i-init
loop-i-init c = sym (tab_zero _)

pub loop-i-preserved : goal.loop-i-preserved
loop-i-preserved c =
    front_turn c.loop-i.out _ c.loop-i.i _ (omega arith) c.loop-i.invariant (c.byte.ensures ∙ ap (λ (w : ℕ). w % 256) c.word_after.ensures)

pub returns : goal.returns
unfolding bytes_at
returns c =
    let l = c.loop-i in
    let end : l.i ≡ length l.out = omega arith in
    let whole : length l.out ≡ length c.args.out.now = omega arith in
    sym (take-length l.out) ∙ (rw end at l.invariant) ∙ ap (λ (k : ℕ). tab k (λ i. stored_at c.args.words.now (c.args.from + i) % 256)) whole
