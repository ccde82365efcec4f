-- The text of a whole stream, and the statement that the program hands it to its writes. Definitions only.
--
-- Where the chain ends: `Handed` and `Came` (crate ports) say that bytes were handed to a write and that bytes came from a read, and a program has them
-- from ports' two functions alone, of a line or two each. What is not stated: that the system writes what it is handed, that what came is the
-- input's, when a call was made, and that nothing is handed over twice or besides. For this the calls of `flush` are to be read: three in
-- crate reader, one before each read, one where there is no room for a line, one at the end.
use Rattle.std.specs.Prelude.{ℕ, ◌≡◌, false, List, ◌++◌, take}
use Rattle.whole_log.specs.Log.{Log, line, last, log_of}
use Rattle.whole_log.specs.Pieces.{all}
use Rattle.reader.specs.Run.{pushed_of}
use Rattle.reader.specs.Text.{text_of, last_of}
use Rattle.reader.specs.Turns.{Logged}

-- a log's lines, one after another
unfoldable pub bytes_of : Log → List ℕ
bytes_of (line l rest) = text_of l ++ bytes_of rest
bytes_of (last e) = last_of e

-- THE TEXT of a whole stream
abbrev pub printed_of : List ℕ → List ℕ
printed_of s = bytes_of (log_of s)

-- all that a call of `reader::log` hands to its writes, one after another: at its turns; before the last line, where there is no room for it; at the end
abbrev pub output_of : Logged → List ℕ
output_of c = c.finished.ran.handed ++ (pushed_of c.finished.before c.finished.run.put ++ take c.waits c.out)

-- THE STATEMENT: if the turns ended because the run no longer went on, this is the text of all the bytes that were read
abbrev pub PrintsTheLog : Type 0
PrintsTheLog = (c : Logged) → c.finished.run.is_going ≡ false → output_of c ≡ printed_of (all c.finished.ran.pieces)
