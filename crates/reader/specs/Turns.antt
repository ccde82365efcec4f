-- Turn after turn, from the first to the last line. Definitions only.
use Rattle.std.specs.Prelude.{ℕ, ◌+◌, ◌-◌, ◌≤◌, ◌≡◌, true, false, List, [], ◌∷◌, ◌++◌, ◌⊎◌, length, take}
use Rattle.ports.specs.Ports.{Handed}
use Rattle.stream.specs.Stream.{first_state, step_of, end_of}
use Rattle.stream.specs.declared.Event.{Event}
use Rattle.stream.specs.declared.Event.TheVariants as event
use Rattle.reader.specs.Run.{Next, Turned, Lined, handed_by, pending, brought_of, pushed_of}
use Rattle.reader.specs.Text.{last_of}
use Rattle.reader.specs.declared.Run.{Run}

-- the lengths of what is lent: buffers with room for the longest record that is held and for a line; document 01's store, work and marks
pub record Sizes (buf out store work marks : ℕ) : Type 0 where
  pub holds : 1034 ≤ buf
  pub room : 100 ≤ out
  pub bytes : store ≡ 1024
  pub floats : work ≡ 12288
  pub marked : marks ≡ 16

-- nothing is at hand, and nothing waits
abbrev pub first_run : Run
first_run = record { at = 0; end = 0; put = 0; is_going = true; state = first_state }

-- what a turn reads
unfoldable pub read_by : Run → Run → List ℕ → Event → List (List ℕ)
read_by run r buf event.More = brought_of (run.end - run.at) r buf ∷ []
read_by run r buf event.Quiet = []
read_by run r buf (event.Print l) = []
read_by run r buf event.Broken = []

-- n turns, from the first run over bytes, text and held, as long as the run goes on: what they leave, what they handed to the writes, one after
-- another, and the pieces that they read. With work and marks of these lengths lent
pub data Turns (work marks : ℕ) (bytes text held : List ℕ) : ℕ → Run → List ℕ → List ℕ → List ℕ → List ℕ → List (List ℕ) → Type 0 where
  none : Turns work marks bytes text held 0 first_run bytes text held [] []
  further : {n : ℕ} {run r : Run} {buf buf' out out' store store' w : List ℕ} {ps : List (List ℕ)} → Turns work marks bytes text held n run buf out store w ps
      → run.is_going ≡ true → Next run r (length buf) (length out) → Turned run r buf buf' out out' store store' work marks
      → Turns work marks bytes text held (n + 1) r buf' out' store' (w ++ handed_by run out (step_of run.state (pending run buf) store work marks).event) (ps ++ read_by run r buf' (step_of run.state (pending run buf) store work marks).event)

-- the turns end where the run no longer goes on, or after 2^64 - 1 of them
pub record Ran (work marks : ℕ) (bytes text held : List ℕ) (r : Run) (buf out store : List ℕ) : Type 0 where
  pub count : ℕ
  pub handed : List ℕ
  pub pieces : List (List ℕ)
  pub turns : Turns work marks bytes text held count r buf out store handed pieces
  pub ended : (r.is_going ≡ false) ⊎ (count ≡ 18446744073709551615)

-- the last line is put, by the run's state and the bytes left: r bytes are still to be handed over
pub record Closed (run : Run) (old new : List ℕ) (r : ℕ) : Type 0 where
  pub handed : Handed (pushed_of old run.put)
  pub lined : Lined run.put r (last_of (end_of run.state (run.end - run.at))) old new

-- the turns, and the last line
pub record Finished (work marks : ℕ) (bytes text held : List ℕ) (out : List ℕ) (r : ℕ) : Type 0 where
  pub run : Run
  pub buf : List ℕ
  pub before : List ℕ
  pub store : List ℕ
  pub ran : Ran work marks bytes text held run buf before store
  pub closed : Closed run before out r

-- A WHOLE CALL: with document 01's memory the turns are taken and the last line is put, and what then waits is handed over
pub record Logged : Type 0 where
  pub bytes : List ℕ
  pub text : List ℕ
  pub held : List ℕ
  pub size : length held ≡ 1024
  pub out : List ℕ
  pub waits : ℕ
  pub finished : Finished 12288 16 bytes text held out waits
  pub handed : Handed (take waits out)
