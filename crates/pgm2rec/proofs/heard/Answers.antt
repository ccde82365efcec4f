-- `pgm2rec::heard` goes on only with a word that could be had. Assumes nothing.
use mathlib.Core.Path.{sym, ◌∙◌}
use native.Mathlib.Omega.{arith}
use lib.ListN.{length-take}
use Rattle.pgm2rec.proofs.Steps.{nobody, run_heard, run_not_heard}
use Rattle.pgm2rec.proofs.heard.Goals as goal

pub slice_bounds-taken-end : goal.slice_bounds-taken-end
slice_bounds-taken-end c = let h = rw c.in-Ok.is at c.requires in simp length-take (omega (arith, h))

pub returns-in-Err : goal.returns-in-Err
returns-in-Err c =
    let a = c.args in
    (nobody, c.refuse.ensures ∙ sym (run_not_heard a.run nobody a.bytes.now c.in-Err.is))

pub returns-in-Ok : goal.returns-in-Ok
returns-in-Ok c =
    let a = c.args in
    let w = c.taken.ensures in
    (w.0, w.1 ∙ sym (run_heard a.run w.0 a.bytes.now c.in-Ok.is))
