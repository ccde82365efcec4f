-- `reader::turns` meets its contract. The loop's invariant: the turns so far are counted. Assumes nothing.
use Prim.Native.Nat.{◌≤◌}
use lib.ListN.{length}
use Rattle.reader.proofs.Counted.{Counted}
use Rattle.reader.proofs.turns.Given as goal

abbrev pub invariant-loop : goal.invariant-loop
invariant-loop g l = record {
  start : l.run.at ≤ l.run.end;
  end : l.run.end ≤ length l.buf;
  waits : l.run.put ≤ length l.out;
  frames : l.run.state.frames ≤ l.counter;
  counted : Counted 12288 16 l.fn.buf l.fn.out l.fn.store l.counter l.run l.buf l.out l.store;
}
