-- `pgm2rec::put_due` puts the settings only where they are new. Assumes nothing.
use mathlib.Core.Path.{sym, ap, ◌∙◌}
use mathlib.Core.List.{List}
use Prim.Native.Nat.{ℕ}
use borrow.Author.Tests.{not-true, not-false}
use lib.ListN.{length}
use Rattle.lists.specs.Lists.{put}
use Rattle.lists.proofs.Put.{put_none}
use Rattle.pgm2rec.proofs.Parts.{due_none, due_some, settings_long}
use Rattle.pgm2rec.proofs.put_due.Goals as goal

pub returns-then-not-run : goal.returns-then-not-run
returns-then-not-run c =
    let a = c.args in
    let e = due_none a.run (not-true _ c.if-not-run.true) in
    (sym (ap (λ (l : List ℕ). length l) e), sym (ap (put a.out.now 0) e ∙ put_none a.out.now 0))

pub returns : goal.returns
returns c =
    let a = c.args in
    let o = a.run.options in
    let e = due_some a.run (not-false _ c.if-not-run.false) in
    (sym (settings_long o.eps o.passes o.filter o.edge) ∙ sym (ap (λ (l : List ℕ). length l) e), c.put_settings.ensures ∙ sym (ap (put a.out.now 0) e))
