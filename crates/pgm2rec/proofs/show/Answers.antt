-- `pgm2rec::show` writes what was put, and no more. Assumes nothing.
use mathlib.Core.Path.{refl, sym, ◌∙◌}
use mathlib.Core.Bool.{true}
use Rattle.pgm2rec.proofs.Parts.{within, counted, shown}
use Rattle.pgm2rec.proofs.Steps.{run_refused, run_made}
use Rattle.pgm2rec.proofs.show.Goals as goal

pub slice_bounds-write-end : goal.slice_bounds-write-end
slice_bounds-write-end c =
    let a = c.args in
    within a.run a.file.now a.out.now c.requires c.put_picture.ensures.out_after c.in-Ok.ensures.value _ refl

pub slice_bounds-write-end-in-Ok : goal.slice_bounds-write-end-in-Ok
slice_bounds-write-end-in-Ok c =
    let a = c.args in
    counted a.run a.file.now a.out.now c.requires c.put_picture.ensures.out_after c.in-Ok.ensures.value _ refl

pub write-requires : goal.write-requires
write-requires c =
    let a = c.args in
    shown a.run a.file.now a.out.now c.requires c.put_picture.ensures.out_after c.in-Ok.ensures.value _ refl

pub returns-in-Err : goal.returns-in-Err
returns-in-Err c =
    let a = c.args in
    (true, c.refuse.ensures ∙ sym (run_refused a.run true a.file.now c.in-Err.ensures.value _ refl))

pub returns-in-Ok : goal.returns-in-Ok
returns-in-Ok c =
    let a = c.args in
    let w = c.write.ensures in
    (w.0, w.1 ∙ sym (run_made a.run w.0 a.file.now c.in-Ok.ensures.value _ refl))
