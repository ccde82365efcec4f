-- `pgm2rec::opened` reads only a file that is open. Assumes nothing.
use Prim.Native.Nat.{ℕ}
use mathlib.Core.Path.{refl, sym, subst, ◌∙◌}
use mathlib.Core.Bool.{true}
use lib.IntN.{negsuc}
use Rattle.std.specs.Prelude.{Result, Err}
use Rattle.files.specs.Fill.{after_read, Over, Gathered, no_read, one_more}
use Rattle.lists.specs.Marked.{pick}
use Rattle.files.specs.declared.Failed.{Failed}
use Rattle.pgm2rec.specs.Course.{file_of}
use Rattle.pgm2rec.proofs.Steps.{run_closed, run_open}
use Rattle.pgm2rec.proofs.opened.Goals as goal

-- where no file is open, nothing is said of a file: here, that its first read failed
abbrev unread : Result ℕ Failed
unread = Err (record { count = 0 })

at_once : Gathered 65536 (Over unread)
unfolding pick after_read
at_once = one_more no_read (record { got = negsuc 0; moved = refl; after = refl })

pub returns-in-Err : goal.returns-in-Err
returns-in-Err c =
    let a = c.args in
    record { file = unread; gathered = at_once; out = true; after = c.refuse.ensures ∙ sym (run_closed a.run true (file_of unread a.buf.now) c.in-Err.is) }

pub returns-in-Ok : goal.returns-in-Ok
returns-in-Ok c =
    let a = c.args in
    let f = c.fill-held in
    let w = c.filled.ensures in
    record { file = f.result; gathered = subst (λ (n : ℕ). Gathered n (Over f.result)) c.requires.0 f.ensures.0; out = w.0; after = w.1 ∙ sym (run_open a.run w.0 (file_of f.result f.new.buf) c.in-Ok.is) }
