-- `reader::turns` meets its contract. The loop's invariant: the turns so far are counted. Assumes nothing.
use mathlib.Core.Path.{◌≡◌, ap, ◌∙◌}
use mathlib.Core.Bool.{true}
use native.Mathlib.Omega.{arith}
use borrow.Author.Rules.{rules}
use Rattle.stream.specs.declared.State.{State}
use Rattle.reader.proofs.Counted.{counted_none, counted_more}
use Rattle.reader.proofs.turns.Goals as goal

pub loop-init : goal.loop-init
loop-init g c = record {
  start = omega arith;
  end = omega arith;
  waits = omega arith;
  frames = omega (arith, ap (λ (s : State). s.frames) c.fresh.ensures);
  counted = counted_none 12288 16 c.args.buf.now c.args.out.now c.args.store.now c.fresh.result c.fresh.ensures;
}

pub loop-preserved : goal.loop-preserved
loop-preserved g c =
    let p = c.requires in
    let i = c.loop.invariant in
    let t = c.turn-run in
    let x = t.ensures.0 in
    let going : c.loop.run.is_going ≡ true = search rules in
    record {
      start = x.start;
      end = omega (arith, x.end, t.auto);
      waits = omega (arith, x.waits, t.auto);
      frames = omega (arith, x.frames, i.frames);
      counted = counted_more i.counted going (c.loop.auto.work ∙ p.floats) (c.loop.auto.marks ∙ p.marked) x t.ensures.1;
    }
