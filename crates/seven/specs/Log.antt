-- No line of a log has number 7. Statements only.
use Rattle.std.specs.Prelude.{ℕ, ◌≡◌, List}
use Rattle.lists.specs.Premises.{AreBytes}
use Rattle.lines.specs.declared.Line.{Line}
use Rattle.whole_log.specs.Log.{Log, line, last, log_of}

-- P holds of every line of a log that belongs to a frame
abbrev pub EveryLine : (Line → Type 0) → Log → Type 0
EveryLine P (line l rest) = P l × EveryLine P rest
EveryLine P (last e) = Unit {0}

-- whatever bytes the program reads
abbrev pub LogNeverSeven : Type 0
LogNeverSeven = (s : List ℕ) → AreBytes s → EveryLine (λ l. l.number ≡ 7 → ⊥) (log_of s)
