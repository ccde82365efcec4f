-- What each word makes of a run, by what the system answers. Definitions only.
use Rattle.std.specs.Prelude.{ℕ, ◌+◌, ◌≡◌, Bool, true, false, List, [], ◌++◌, ltb, length, take, Option, Some, None, Result, Ok, Err}
use Rattle.lists.specs.Marked.{pick}
use Rattle.settings.specs.Settings.{defaults_of}
use Rattle.encode.specs.Bytes.{settings_bytes}
use Rattle.files.specs.declared.Failed.{Failed}
use Rattle.files.specs.Fill.{Over, Gathered}
use Rattle.pgm.specs.declared.Fault.{Fault}
use Rattle.pgm.specs.Pgm.{header_of}
use Rattle.pgm.specs.Frame.{made_of, record_of, Framed}
use Rattle.options.specs.declared.Options.{Options}
use Rattle.options.specs.declared.Wrong.{Wrong}
use Rattle.options.specs.declared.Word.{Word}
use Rattle.options.specs.declared.Word.TheVariants.{Settings, Picture, Help}
use Rattle.options.specs.Words.{word_of, options_of}
use Rattle.pgm2rec.specs.declared.Run.{Run}

-- ---- runs

-- word 1 is next, and the settings that pinlog starts with are still to be written
abbrev pub fresh_run : Run
fresh_run = record { options = options_of defaults_of; is_new = true; next = 1; is_going = true }

-- the word is passed
abbrev pub onward_of : Run → Run
onward_of run = record { options = run.options; is_new = run.is_new; next = run.next + 1; is_going = run.is_going }

abbrev pub stopped_of : Run → Run
stopped_of run = record { options = run.options; is_new = run.is_new; next = run.next; is_going = false }

-- other settings hold, and are still to be written
abbrev pub changed_of : Run → Options → Run
changed_of run o = record { options = o; is_new = true; next = run.next; is_going = true }

-- a picture was written, and the settings before it
abbrev pub shown_of : Run → Run
shown_of run = record { options = run.options; is_new = false; next = run.next; is_going = true }

-- by whether it went out
unfoldable pub written_of : Run → Bool → Run
written_of run true = shown_of run
written_of run false = stopped_of run

-- ---- pictures

-- a file: its bytes, or none that can be taken
pub data File : Type 0 where
  Read : List ℕ → File
  Unread : File

-- as a buffer holds it. Where a read failed it is not taken, nor where the buffer is full, for it may be longer
unfoldable pub file_of : Result ℕ Failed → List ℕ → File
file_of (Ok n) buf = pick (ltb n (length buf)) (Read (take n buf)) Unread
file_of (Err e) buf = Unread

-- the settings of the run, where they are still to be written
unfoldable pub due_of : Run → List ℕ
due_of run = pick run.is_new (settings_bytes run.options.eps run.options.passes run.options.filter run.options.edge) []

-- the frame record of a file's bytes, with room for 65,536 bytes: how long it is, or why there is none
abbrev pub picture_of : List ℕ → Result ℕ Fault
picture_of s = made_of s 65536 (header_of s)

abbrev pub frame_bytes : List ℕ → List ℕ
frame_bytes s = record_of s 65536 (header_of s)

-- how long it is with what is due before it
unfoldable pub sized_of : Run → Result ℕ Fault → Result ℕ Fault
sized_of run (Ok n) = Ok (length (due_of run) + n)
sized_of run (Err k) = Err k

-- the run after a picture, by what was made of it and by whether it went out
unfoldable pub made_run : Run → Bool → Result ℕ Fault → Run
made_run run out (Ok n) = written_of run out
made_run run out (Err k) = stopped_of run

-- what is handed to standard output: what is due, and then the frame
unfoldable pub made_bytes : Run → List ℕ → Result ℕ Fault → List ℕ
made_bytes run s (Ok n) = due_of run ++ frame_bytes s
made_bytes run s (Err k) = []

unfoldable pub file_run : Run → Bool → File → Run
file_run run out (Read s) = made_run run out (picture_of s)
file_run run out Unread = stopped_of run

unfoldable pub file_bytes : Run → File → List ℕ
file_bytes run (Read s) = made_bytes run s (picture_of s)
file_bytes run Unread = []

-- bytes as they are handed over: what is due, and then the frame of some file, which is a whole one
pub record Shown (run : Run) (l : List ℕ) : Type 0 where
  pub source : List ℕ
  pub framed : Framed (frame_bytes source)
  pub bytes : l ≡ due_of run ++ frame_bytes source

-- ---- words

-- what the system answers at a word that names a picture: whether the file could be opened; the file as it was read; whether what was written went out
pub record Answers : Type 0 where
  pub is_open : Bool
  pub file : File
  pub out : Bool

-- and at any word: the word, if it could be had
pub record WordTold : Type 0 where
  pub word : Option (List ℕ)
  pub answers : Answers

-- no file is read that is not open
unfoldable pub opened_file : Bool → File → File
opened_file true f = f
opened_file false f = Unread

-- after an open, by whether it went well: the file is as it was read into a buffer of 65,536 bytes, which holds buf afterwards
pub record Opened (run : Run) (is_open : Bool) (buf : List ℕ) (r : Run) : Type 0 where
  pub file : Result ℕ Failed
  pub gathered : Gathered 65536 (Over file)
  pub out : Bool
  pub after : r ≡ file_run run out (opened_file is_open (file_of file buf))

-- by what the word is
unfoldable pub taken_run : Run → Answers → Result Word Wrong → Run
taken_run run a (Ok (Settings o)) = changed_of run o
taken_run run a (Ok Picture) = file_run run a.out (opened_file a.is_open a.file)
taken_run run a (Ok Help) = stopped_of run
taken_run run a (Err k) = stopped_of run

unfoldable pub taken_bytes : Run → Answers → Result Word Wrong → List ℕ
taken_bytes run a (Ok (Settings o)) = []
taken_bytes run a (Ok Picture) = file_bytes run (opened_file a.is_open a.file)
taken_bytes run a (Ok Help) = []
taken_bytes run a (Err k) = []

-- what an answer for a word says of a buffer: its first bytes are the word, or the word can't be had
abbrev pub heard_of : {E : Type 0} → Result ℕ E → List ℕ → Option (List ℕ)
heard_of (Ok n) buf = Some (take n buf)
heard_of (Err e) buf = None

-- a word that can't be had stops the run
unfoldable pub heard_run : Run → Option (List ℕ) → Answers → Run
heard_run run None a = stopped_of run
heard_run run (Some word) a = taken_run run a (word_of run.options word)

abbrev pub told_run : Run → WordTold → Run
told_run run t = heard_run (onward_of run) t.word t.answers

unfoldable pub heard_bytes : Run → Option (List ℕ) → Answers → List ℕ
heard_bytes run None a = []
heard_bytes run (Some word) a = taken_bytes run a (word_of run.options word)

abbrev pub told_bytes : Run → WordTold → List ℕ
told_bytes run t = heard_bytes run t.word t.answers
