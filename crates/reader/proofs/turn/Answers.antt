-- `reader::turn` meets its contract: a turn is a step of the stream, and what comes of it. Assumes nothing.
use Prim.Native.Nat.{ℕ}
use mathlib.Core.Path.{◌≡◌, subst}
use mathlib.Core.List.{List}
use Rattle.stream.specs.Memory.{stepped_store}
use Rattle.stream.specs.Stream.{step_of}
use Rattle.stream.specs.declared.Step.{Step}
use Rattle.reader.specs.Run.{Followed, Turned, pending}
use Rattle.reader.specs.declared.Run.{Run}
use Rattle.reader.proofs.turn.Goals as goal

by_step : (run r : Run) (buf buf' out out' store store' : List ℕ) (k m : ℕ) (s : Step) → s ≡ step_of run.state (pending run buf) store k m →
    Followed run r s buf buf' out out' → store' ≡ stepped_store run.state (pending run buf) store → Turned run r buf buf' out out' store store' k m
by_step run r buf buf' out out' store store' k m s e f g = record {
  followed = subst (λ (x : Step). Followed run r x buf buf' out out') e f;
  stored = g;
}

pub returns : goal.returns
returns g c =
    let a = c.args in
    let f = c.follow in
    let s = c.look-step in
    (f.ensures.0, by_step a.run _ a.buf.now _ a.out.now _ _ _ _ _ s.result s.ensures.value.0 f.ensures.1 s.ensures.store_after)
