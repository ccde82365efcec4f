-- The run after a picture and after a word, case by case. Assumes nothing.
use Prim.Native.Nat.{ℕ, ◌+◌, ◌≤◌}
use mathlib.Core.Path.{◌≡◌, refl, sym, ◌∙◌}
use mathlib.Core.Bool.{Bool, true, false}
use mathlib.Core.List.{List}
use native.Mathlib.Omega.{arith}
use borrow.Author.Tests.{lt-ltb, le-ltb}
use lib.ListN.{length, take}
use Rattle.std.specs.Prelude.{Option, Some, None, Result, Ok, Err, is_ok}
use Rattle.lists.proofs.Cases.{pick_true, pick_false}
use Rattle.files.specs.declared.Failed.{Failed}
use Rattle.pgm.specs.declared.Fault.{Fault}
use Rattle.options.specs.declared.Wrong.{Wrong}
use Rattle.options.specs.declared.Word.{Word}
use Rattle.options.specs.declared.Word.TheVariants.{Settings, Picture, Help}
use Rattle.options.specs.Words.{word_of}
use Rattle.pgm2rec.specs.declared.Run.{Run}
use Rattle.pgm2rec.specs.Course.{onward_of, stopped_of, written_of, File, Read, Unread, file_of, picture_of, sized_of, made_run, file_run, opened_file, Answers, taken_run, heard_of, heard_run, WordTold, told_run}

-- ---- a picture
module _ (run : Run) (out : Bool) where
  refused_by : (m : Result ℕ Fault) (k : Fault) → sized_of run m ≡ Err k → made_run run out m ≡ stopped_of run
  unfolding sized_of made_run
  refused_by (Ok n) k e = cc
  refused_by (Err n) k e = refl

  made_by : (m : Result ℕ Fault) (n : ℕ) → sized_of run m ≡ Ok n → made_run run out m ≡ written_of run out
  unfolding sized_of made_run
  made_by (Ok k) n e = refl
  made_by (Err k) n e = cc

  module _ (s : List ℕ) {m : Result ℕ Fault} (a : m ≡ sized_of run (picture_of s)) where
    pub run_refused : (k : Fault) → m ≡ Err k → file_run run out (Read s) ≡ stopped_of run
    unfolding file_run
    run_refused k e = refused_by (picture_of s) k (sym a ∙ e)

    pub run_made : (n : ℕ) → m ≡ Ok n → file_run run out (Read s) ≡ written_of run out
    unfolding file_run
    run_made n e = made_by (picture_of s) n (sym a ∙ e)

  pub run_unread : file_run run out Unread ≡ stopped_of run
  unfolding file_run
  run_unread = refl

-- ---- a file as a buffer holds it
module _ (buf : List ℕ) {f : Result ℕ Failed} where
  pub not_read : (e : Failed) → f ≡ Err e → file_of f buf ≡ Unread
  unfolding file_of
  not_read e q = rw q refl

  pub too_long : (n : ℕ) → f ≡ Ok n → n ≡ length buf → file_of f buf ≡ Unread
  unfolding file_of
  too_long n q e = rw q (pick_false _ _ _ (le-ltb n (length buf) (omega (arith, e))))

  pub all_read_lem : (n : ℕ) → f ≡ Ok n → n ≤ length buf → (n ≡ length buf → ⊥) → file_of f buf ≡ Read (take n buf)
  unfolding file_of
  all_read_lem n q h e = rw q (pick_true _ _ _ (lt-ltb n (length buf) (omega (arith, e))))

-- ---- an open, by whether it failed
module _ (run : Run) (out : Bool) (f : File) {F E : Type 0} {r : Result F E} where
  pub run_closed : {e : E} → r ≡ Err e → file_run run out (opened_file (is_ok r) f) ≡ stopped_of run
  unfolding opened_file
  run_closed q = rw q (run_unread run out)

  pub run_open : {x : F} → r ≡ Ok x → file_run run out (opened_file (is_ok r) f) ≡ file_run run out f
  unfolding opened_file
  run_open q = rw q refl

-- ---- a word, by whether it could be had

-- answers that nobody asks for
abbrev pub nobody : Answers
nobody = record { is_open = true; file = Unread; out = true }

module _ (run : Run) (a : Answers) (buf : List ℕ) {E : Type 0} {r : Result ℕ E} where
  pub run_heard : {n : ℕ} → r ≡ Ok n → heard_run run (heard_of r buf) a ≡ taken_run run a (word_of run.options (take n buf))
  unfolding heard_run
  run_heard q = rw q refl

  pub run_not_heard : {e : E} → r ≡ Err e → heard_run run (heard_of r buf) a ≡ stopped_of run
  unfolding heard_run
  run_not_heard q = rw q refl

-- ---- each word is passed
next_went : (run : Run) (b : Bool) → (written_of run b).next ≡ run.next
unfolding written_of
next_went run true = refl
next_went run false = refl

next_made : (run : Run) (out : Bool) (m : Result ℕ Fault) → (made_run run out m).next ≡ run.next
unfolding made_run
next_made run out (Ok n) = next_went run out
next_made run out (Err k) = refl

next_file : (run : Run) (out : Bool) (f : File) → (file_run run out f).next ≡ run.next
unfolding file_run
next_file run out (Read s) = next_made run out (picture_of s)
next_file run out Unread = refl

next_taken : (run : Run) (a : Answers) (w : Result Word Wrong) → (taken_run run a w).next ≡ run.next
unfolding taken_run
next_taken run a (Ok (Settings o)) = refl
next_taken run a (Ok Picture) = next_file run a.out (opened_file a.is_open a.file)
next_taken run a (Ok Help) = refl
next_taken run a (Err k) = refl

next_heard : (run : Run) (w : Option (List ℕ)) (a : Answers) → (heard_run run w a).next ≡ run.next
unfolding heard_run
next_heard run None a = refl
next_heard run (Some w) a = next_taken run a (word_of run.options w)

pub next_told : (run : Run) (t : WordTold) → (told_run run t).next ≡ run.next + 1
next_told run t = next_heard (onward_of run) t.word t.answers
