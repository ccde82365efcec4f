-- `pgm2rec::turn` asks for the next word. Assumes nothing.
use Rattle.std.proofs.Common.{Option, List, ℕ, ap, ◌∙◌}
use Rattle.pgm2rec.specs.declared.Run.{Run}
use Rattle.pgm2rec.specs.Course.{heard_of, heard_run}
use Rattle.pgm2rec.proofs.turn.Goals as goal

pub returns : goal.returns
returns c =
    let w = c.heard.ensures in
    let word : Option (List ℕ) = heard_of c.arg-word.result c.arg-word.new.buf in
    (record { word = word; answers = w.0 }, w.1 ∙ ap (λ (z : Run). heard_run z word w.0) c.onward.ensures)
