-- `blends::mix` meets its contract. Assumes nothing.
use Prim.Native.Nat.{◌+◌, ◌*◌}
use native.Mathlib.Omega.{arith}
use Rattle.blends.proofs.Pixel.{mixed}
use Rattle.blends.proofs.mix.Goals as goal

pub returns : goal.returns
returns c =
    let a = c.args in
    let is = mixed a.part.now a.n in
    let h = c.requires.1 in
    record {
      first = is 0 a.w a.i a.i a.a a.b _ h (omega arith) c.blend-first.ensures;
      second = is 1 a.w a.i (a.n + a.i) a.a a.b _ h (omega arith) c.blend-second.ensures;
      third = is 2 a.w a.i (2 * a.n + a.i) a.a a.b _ h (omega arith) c.blend-third.ensures;
    }
