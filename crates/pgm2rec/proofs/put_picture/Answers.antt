-- `pgm2rec::put_picture` puts the frame right behind what is due. Assumes nothing.
use Prim.Native.Nat.{◌+◌, ◌-◌}
use mathlib.Core.Path.{◌≡◌, sym, ap, ◌∙◌}
use native.Mathlib.Omega.{arith}
use lib.ListN.{length}
use Rattle.std.specs.Prelude.{Ok}
use Rattle.std.proofs.lemmas.Result.{err_from_is_err_and}
use Rattle.pgm2rec.specs.Course.{due_of, sized_of}
use Rattle.pgm2rec.proofs.Parts.{due_short, frame_short, made_in, behind}
use Rattle.pgm2rec.proofs.put_picture.Goals as goal

pub overflow_add-e : goal.overflow_add-e
overflow_add-e c =
    let k : c.put_due-k.result ≡ length (due_of c.args.run) = c.put_due-k.ensures.0 in
    omega (arith, due_short c.args.run)

pub slice_bounds-put_frame-end : goal.slice_bounds-put_frame-end
slice_bounds-put_frame-end c =
    let k : c.put_due-k.result ≡ length (due_of c.args.run) = c.put_due-k.ensures.0 in
    omega (arith, due_short c.args.run, c.put_due-k.auto, c.requires)

pub overflow_add-result : goal.overflow_add-result
overflow_add-result c =
    let a = c.args in
    let d = c.put_due-k in
    let q : d.result + 65536 - d.result ≡ 65536 = omega arith in
    let e = made_in a.run a.file.now a.out.now c.requires d.ensures.0 q d.ensures.1 c.put_frame.ensures.value in
    let k : d.result ≡ length (due_of a.run) = d.ensures.0 in
    omega (arith, due_short a.run, frame_short a.file.now c.in_ok-n.n (sym e ∙ c.in_ok-n.was))

pub returns-in_err-n : goal.returns-in_err-n
unfolding sized_of
returns-in_err-n c =
    let a = c.args in
    let d = c.put_due-k in
    let q : d.result + 65536 - d.result ≡ 65536 = omega arith in
    let e = made_in a.run a.file.now a.out.now c.requires d.ensures.0 q d.ensures.1 c.put_frame.ensures.value in
    let p = err_from_is_err_and c.from_residual.result c.from_residual.ensures.1 in
    record {
      value = rw (p.1, p.2) (sym (ap (sized_of a.run) (sym e ∙ c.in_err-n.was)));
      out_after = behind a.run a.file.now a.out.now c.requires d.ensures.0 q d.ensures.1 c.put_frame.ensures.out_after;
    }

pub returns : goal.returns
unfolding sized_of
returns c =
    let a = c.args in
    let d = c.put_due-k in
    let q : d.result + 65536 - d.result ≡ 65536 = omega arith in
    let e = made_in a.run a.file.now a.out.now c.requires d.ensures.0 q d.ensures.1 c.put_frame.ensures.value in
    let n = c.in_ok-n.n in
    record {
      value = ap Ok {y = length (due_of a.run) + n} (omega (arith, d.ensures.0)) ∙ sym (ap (sized_of a.run) (sym e ∙ c.in_ok-n.was));
      out_after = behind a.run a.file.now a.out.now c.requires d.ensures.0 q d.ensures.1 c.put_frame.ensures.out_after;
    }
