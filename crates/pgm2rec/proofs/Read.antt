-- All that is written is read as settings and frames, whatever the system answers. Assumes nothing.
use Prim.Native.Nat.{ℕ}
use mathlib.Core.Path.{◌≡◌, refl}
use mathlib.Core.Bool.{Bool, true, false}
use mathlib.Core.List.{List, [], ◌∷◌, ◌++◌, append_assoc}
use Rattle.lists.proofs.Cases.{pick_both}
use Rattle.encode.specs.Bytes.{settings_bytes}
use Rattle.encode.proofs.Back.{settings_back}
use Rattle.std.specs.Prelude.{Option, Some, None, Result, Ok, Err}
use Rattle.pgm.specs.declared.Fault.{Fault}
use Rattle.pgm.proofs.Record.{whole}
use Rattle.options.specs.declared.Options.{Options}
use Rattle.options.specs.declared.Wrong.{Wrong}
use Rattle.options.specs.declared.Word.{Word}
use Rattle.options.specs.declared.Word.TheVariants.{Settings, Picture, Help}
use Rattle.options.specs.Words.{word_of, Ranged}
use Rattle.options.proofs.Fields.{defaults_ranged, stays}
use Rattle.pgm2rec.specs.declared.Run.{Run}
use Rattle.pgm2rec.specs.Course.{fresh_run, onward_of, written_of, due_of, picture_of, File, Read, Unread, made_run, made_bytes, file_run, file_bytes, opened_file, Answers, taken_run, taken_bytes, heard_run, heard_bytes, WordTold, told_run, told_bytes}
use Rattle.pgm2rec.specs.Whole.{walked_bytes, SettingsRead, Records, all_read, settings_first, frame_first, AllRead}

-- ---- bytes
settings_read : (o : Options) → Ranged o → SettingsRead o (settings_bytes o.eps o.passes o.filter o.edge)
settings_read o r = record { reads = λ t. settings_back o.eps o.passes o.filter o.edge t r.eps r.passes r.filter r.edge }

module _ (run : Run) (r : Ranged run.options) {t : List ℕ} (rest : Records t) where
  abbrev Before : List ℕ → Type 0
  Before l = Records (l ++ t)

  due_read : {l : List ℕ} → Records l → Records (due_of run ++ l)
  unfolding due_of
  due_read {l} h = pick_both (λ (d : List ℕ). Records (d ++ l)) run.is_new _ _ (settings_first run.options (settings_read run.options r) h) h

  made_read : (s : List ℕ) (m : Result ℕ Fault) → picture_of s ≡ m → Before (made_bytes run s m)
  unfolding made_bytes
  made_read s (Ok n) e = rw append_assoc (due_read (frame_first (whole s 65536 n e).framed rest))
  made_read s (Err k) e = rest

  file_read : (f : File) → Before (file_bytes run f)
  unfolding file_bytes
  file_read (Read s) = made_read s (picture_of s) refl
  file_read Unread = rest

  taken_read : (a : Answers) (w : Result Word Wrong) → Before (taken_bytes run a w)
  unfolding taken_bytes
  taken_read a (Ok (Settings o)) = rest
  taken_read a (Ok Picture) = file_read (opened_file a.is_open a.file)
  taken_read a (Ok Help) = rest
  taken_read a (Err k) = rest

  heard_read : (w : Option (List ℕ)) (a : Answers) → Before (heard_bytes run w a)
  unfolding heard_bytes
  heard_read None a = rest
  heard_read (Some w) a = taken_read a (word_of run.options w)

  told_read : (x : WordTold) → Before (told_bytes run x)
  told_read x = heard_read x.word x.answers

-- ---- settings
module _ (run : Run) (r : Ranged run.options) where
  went_ranged : (b : Bool) → Ranged (written_of run b).options
  unfolding written_of
  went_ranged true = r
  went_ranged false = r

  made_ranged : (out : Bool) (m : Result ℕ Fault) → Ranged (made_run run out m).options
  unfolding made_run
  made_ranged out (Ok n) = went_ranged out
  made_ranged out (Err k) = r

  file_ranged : (out : Bool) (f : File) → Ranged (file_run run out f).options
  unfolding file_run
  file_ranged out (Read s) = made_ranged out (picture_of s)
  file_ranged out Unread = r

  taken_ranged : (a : Answers) (s : List ℕ) (w : Result Word Wrong) → word_of run.options s ≡ w → Ranged (taken_run run a w).options
  unfolding taken_run
  taken_ranged a s (Ok (Settings o)) e = stays run.options s o r e
  taken_ranged a s (Ok Picture) e = file_ranged a.out (opened_file a.is_open a.file)
  taken_ranged a s (Ok Help) e = r
  taken_ranged a s (Err k) e = r

  heard_ranged : (w : Option (List ℕ)) (a : Answers) → Ranged (heard_run run w a).options
  unfolding heard_run
  heard_ranged None a = r
  heard_ranged (Some w) a = taken_ranged a w (word_of run.options w) refl

told_ranged : (run : Run) → Ranged run.options → (x : WordTold) → Ranged (told_run run x).options
told_ranged run r x = heard_ranged (onward_of run) r x.word x.answers

-- ---- word after word
after_read : (run : Run) → Ranged run.options → (ts : List WordTold) → Records (walked_bytes run ts)
unfolding walked_bytes
after_read run r [] = all_read
after_read run r (x ∷ ts) = pick_both Records run.is_going _ _ (told_read run r (after_read (told_run run x) (told_ranged run r x) ts) x) all_read

-- THE LAW
pub all_read_lem : AllRead
all_read_lem ts = after_read fresh_run defaults_ranged ts
