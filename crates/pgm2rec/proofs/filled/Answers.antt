-- `pgm2rec::filled` hands over the bytes that were read. Assumes nothing.
use mathlib.Core.Path.{◌≡◌, sym, ap, ◌∙◌}
use mathlib.Core.Bool.{true}
use borrow.Author.Rules.{rules}
use Rattle.pgm2rec.specs.Course.{file_run}
use Rattle.pgm2rec.proofs.Steps.{run_unread, not_read, too_long, all_read_lem}
use Rattle.pgm2rec.proofs.filled.Goals as goal

pub returns-in-Err : goal.returns-in-Err
returns-in-Err c =
    let a = c.args in
    (true, search rules ∙ sym (ap (file_run a.run true) (not_read a.buf.now _ c.in-Err.is) ∙ run_unread a.run true))

pub returns-in-Ok : goal.returns-in-Ok
returns-in-Ok c =
    let a = c.args in
    (true, c.refuse-in-Ok.ensures ∙ sym (ap (file_run a.run true) (too_long a.buf.now _ c.in-Ok.is c.if-n-buf.true) ∙ run_unread a.run true))

pub returns-in-Ok-2 : goal.returns-in-Ok-2
returns-in-Ok-2 c =
    let a = c.args in
    let w = c.show.ensures in
    let n : c.in-Ok.n ≡ c.in-Ok-2.n = cc in
    let whole = all_read_lem a.buf.now _ c.in-Ok-2.is (rw c.in-Ok-2.is at c.requires.1) (λ e. c.if-n-buf.false (n ∙ e)) in
    (w.0, w.1 ∙ sym (ap (file_run a.run w.0) whole))
