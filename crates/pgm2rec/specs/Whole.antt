-- All words one after another: the run after them, the bytes that are written, and how the program `pinlog` reads those. Definitions and a statement.
use Rattle.std.specs.Prelude.{ℕ, ◌≤◌, ◌<◌, ◌≡◌, true, List, [], ◌∷◌, ◌++◌}
use Rattle.std.specs.Float.{binary32}
use Rattle.std.specs.Float.Ieee.{of_bits}
use Rattle.lists.specs.Marked.{pick}
use Rattle.records.specs.declared.Record.TheVariants.{Settings}
use Rattle.records.specs.Reading.{choice_of, next_of}
use Rattle.options.specs.declared.Options.{Options}
use Rattle.pgm.specs.Frame.{Framed}
use Rattle.pgm2rec.specs.declared.Run.{Run}
use Rattle.pgm2rec.specs.Course.{fresh_run, WordTold, told_run, told_bytes}

-- as long as the run goes on
unfoldable pub walked_run : Run → List WordTold → Run
walked_run run [] = run
walked_run run (t ∷ ts) = pick run.is_going (walked_run (told_run run t) ts) run

-- what is handed to standard output, from the first word on
unfoldable pub walked_bytes : Run → List WordTold → List ℕ
walked_bytes run [] = []
walked_bytes run (t ∷ ts) = pick run.is_going (told_bytes run t ++ walked_bytes (told_run run t) ts) []

-- of count words, with the program's own name: each from word 1 on was taken, in order, up to the last or to the one at which the run stopped
pub record Walked (count : ℕ) (r : Run) : Type 0 where
  pub told : List WordTold
  pub after : r ≡ walked_run fresh_run told
  pub all : r.is_going ≡ true → count ≤ r.next
  pub nothing : count ≤ 1 → r ≡ fresh_run
  pub within : 1 < count → r.next ≤ count

-- bytes that the program `pinlog` reads as one settings record, whatever follows
pub record SettingsRead (o : Options) (l : List ℕ) : Type 0 where
  pub reads : (t : List ℕ) → next_of (l ++ t) ≡ Settings (record { eps = of_bits binary32 o.eps; max_iter = o.passes; gauss_filt_size = o.filter; resize_long_edge = choice_of o.edge })

-- bytes that it reads as settings and frames, one after another, with nothing left over
pub data Records : List ℕ → Type 0 where
  all_read : Records []
  settings_first : (o : Options) {l t : List ℕ} → SettingsRead o l → Records t → Records (l ++ t)
  frame_first : {l t : List ℕ} → Framed l → Records t → Records (l ++ t)

-- whatever the system answers, word after word, all that is written is read so
abbrev pub AllRead : Type 0
AllRead = (ts : List WordTold) → Records (walked_bytes fresh_run ts)
