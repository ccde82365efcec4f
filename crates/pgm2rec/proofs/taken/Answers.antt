-- `pgm2rec::taken` goes by what the word is. Assumes nothing.
use mathlib.Core.Path.{sym, ap, ◌∙◌}
use Rattle.std.specs.Prelude.{Ok}
use Rattle.pgm2rec.specs.Course.{taken_run}
use Rattle.pgm2rec.proofs.Steps.{nobody}
use Rattle.pgm2rec.proofs.taken.Goals as goal

pub returns-in-Ok-Settings : goal.returns-in-Ok-Settings
unfolding taken_run
returns-in-Ok-Settings c =
    let a = c.args in
    let e = sym c.take_word.ensures ∙ c.in-Ok-Settings.is ∙ ap Ok c.in-Ok-Settings.field-0-is in
    (nobody, c.changed.ensures ∙ sym (ap (taken_run a.run nobody) e))

pub returns-in-Ok-Picture : goal.returns-in-Ok-Picture
unfolding taken_run
returns-in-Ok-Picture c =
    let a = c.args in
    let w = c.picture.ensures in
    let e = sym c.take_word.ensures ∙ c.in-Ok-Picture.is ∙ ap Ok c.in-Ok-Picture.field-0-is in
    (w.0, w.1 ∙ sym (ap (taken_run a.run w.0) e))

pub returns-in-Ok-Help : goal.returns-in-Ok-Help
unfolding taken_run
returns-in-Ok-Help c =
    let a = c.args in
    let e = sym c.take_word.ensures ∙ c.in-Ok-Help.is ∙ ap Ok c.in-Ok-Help.field-0-is in
    (nobody, c.refuse.ensures ∙ sym (ap (taken_run a.run nobody) e))

pub returns-in-Err : goal.returns-in-Err
unfolding taken_run
returns-in-Err c =
    let a = c.args in
    let e = sym c.take_word.ensures ∙ c.in-Err.is in
    (nobody, c.refuse-in-Err.ensures ∙ sym (ap (taken_run a.run nobody) e))
