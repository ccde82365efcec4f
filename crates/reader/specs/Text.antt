-- The text of what the program prints: a frame's line, and the last line. Definitions only.
use Rattle.std.specs.Prelude.{ℕ, true, false, List}
use Rattle.text.specs.Text.{frame_line, end_line}
use Rattle.lines.specs.declared.Line.{Line}
use Rattle.stream.specs.declared.End.{End}
use Rattle.stream.specs.declared.End.TheVariants.{Done, Cut}

-- the text of a frame's line
abbrev pub text_of : Line → List ℕ
text_of l = frame_line l.position l.number l.passes l.dx l.dy l.turn

-- the text of the last line
abbrev pub last_of : End → List ℕ
last_of (Done frames) = end_line true frames
last_of (Cut frames) = end_line false frames
