-- `reader::close` puts the last line where there is room for it. Assumes nothing.
use Prim.Native.Nat.{ℕ}
use mathlib.Core.Path.{subst}
use native.Mathlib.Omega.{arith}
use Rattle.text.specs.Text.{Wrote}
use Rattle.stream.specs.declared.End.{End}
use Rattle.reader.specs.Run.{line_at}
use Rattle.reader.specs.Text.{last_of}
use Rattle.reader.proofs.close.Goals as goal

pub returns : goal.returns
returns c =
    let f = c.finish-end in
    let h = c.room-here in
    let p = c.put_last in
    let a = c.args in
    let xs = a.out.now in
    let y : Wrote xs (line_at xs a.run.put) (last_of f.result) 100 p.new.out p.result = subst (λ (i : ℕ). Wrote xs i (last_of f.result) 100 p.new.out p.result) h.ensures.1 p.ensures in (
      omega (arith, y.next, y.bound, h.ensures.0, h.ensures.1),
      record {
        handed = h.ensures.2;
        lined = subst (λ (e : End). Wrote xs (line_at xs a.run.put) (last_of e) 100 p.new.out p.result) f.ensures y;
      },
    )
