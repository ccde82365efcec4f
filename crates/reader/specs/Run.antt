-- What holds of a run of the program between two turns, and what a turn does. Definitions only.
use Rattle.std.specs.Prelude.{ℕ, ◌+◌, ◌-◌, ◌≤◌, ◌<◌, ◌≡◌, Bool, true, false, List, [], ltb, length, take, drop}
use Rattle.lists.specs.Marked.{pick}
use Rattle.text.specs.Text.{Wrote}
use Rattle.ports.specs.Ports.{Handed, Came}
use Rattle.stream.specs.Memory.{stepped_store}
use Rattle.stream.specs.Stream.{step_of}
use Rattle.stream.specs.declared.Event.{Event}
use Rattle.stream.specs.declared.Event.TheVariants as event
use Rattle.stream.specs.declared.Step.{Step}
use Rattle.reader.specs.Text.{text_of}
use Rattle.reader.specs.declared.Run.{Run}

-- with an input's buffer of m bytes and an output's of n: there is room for the longest record that is held, and for a line
pub record Good (run : Run) (m n : ℕ) : Type 0 where
  pub start : run.at ≤ run.end
  pub end : run.end ≤ m
  pub waits : run.put ≤ n
  pub holds : 1034 ≤ m
  pub room : 100 ≤ n
  pub frames : run.state.frames < 18446744073709551615

pub record Next (run r : Run) (m n : ℕ) : Type 0 where
  pub start : r.at ≤ r.end
  pub end : r.end ≤ m
  pub waits : r.put ≤ n
  pub frames : r.state.frames ≤ run.state.frames + 1

-- what is counted on of a step: it uses bytes that are at hand, and answers one frame at the most; where it wants more, few are at hand
pub record Short (run : Run) (step : Step) : Type 0 where
  pub within : step.used ≤ run.end - run.at
  pub one : step.state.frames ≤ run.state.frames + 1
  pub few : step.event ≡ event.More → run.end - run.at < 1034

-- the bytes of the input's buffer that are still to be used
abbrev pub pending : Run → List ℕ → List ℕ
pending run buf = take (run.end - run.at) (drop run.at buf)

-- what a read brought, behind the n bytes that were still to be used
abbrev pub brought_of : ℕ → Run → List ℕ → List ℕ
brought_of n r buf = take (r.end - n) (drop n buf)

-- there was room for a read. The bytes that were still to be used stand at the front, those that came follow them, and the run goes on if there are any;
-- nothing waits
pub record Took (run r : Run) (old new : List ℕ) : Type 0 where
  pub size : length new ≡ length old
  pub room : run.end - run.at < length old
  pub start : r.at ≡ 0
  pub grows : run.end - run.at ≤ r.end
  pub front : take (run.end - run.at) new ≡ pending run old
  pub came : Came (brought_of (run.end - run.at) r new)
  pub going : r.is_going ≡ ltb (run.end - run.at) r.end
  pub empty : r.put ≡ 0
  pub state : r.state ≡ run.state

-- behind what waits there may be no room for a line
abbrev pub crowded : List ℕ → ℕ → Bool
crowded out waits = ltb (length out - waits) 100

-- then what waits is handed over before a line is put ..
unfoldable pub pushed_of : List ℕ → ℕ → List ℕ
pushed_of out waits = pick (crowded out waits) (take waits out) []

-- .. and the line goes to the front; else it goes behind what waits
unfoldable pub line_at : List ℕ → ℕ → ℕ
line_at out waits = pick (crowded out waits) 0 waits

-- a step was taken
pub record Moved (run r : Run) (step : Step) (old new : List ℕ) : Type 0 where
  pub start : r.at ≡ run.at + step.used
  pub end : r.end ≡ run.end
  pub bytes : new ≡ old
  pub state : r.state ≡ step.state

-- the line l was put: r bytes wait with it
abbrev pub Lined : ℕ → ℕ → List ℕ → List ℕ → List ℕ → Type 0
Lined waits r l old new = Wrote old (line_at old waits) l 100 new r

-- ---- a turn, by what the step found

-- what it hands to a write: before a read all that waits
unfoldable pub handed_by : Run → List ℕ → Event → List ℕ
unfolding pushed_of
handed_by run out event.More = take run.put out
handed_by run out event.Quiet = []
handed_by run out (event.Print l) = pushed_of out run.put
handed_by run out event.Broken = []

-- what it does
abbrev pub turned_by : Run → Run → Step → List ℕ → List ℕ → List ℕ → List ℕ → Event → Type 0
turned_by run r step buf buf' out out' event.More = Took run r buf buf' × (out' ≡ out)
turned_by run r step buf buf' out out' event.Quiet = Moved run r step buf buf' × (out' ≡ out) × (r.put ≡ run.put) × (r.is_going ≡ true)
turned_by run r step buf buf' out out' (event.Print l) = Moved run r step buf buf' × Lined run.put r.put (text_of l) out out' × (r.is_going ≡ true)
turned_by run r step buf buf' out out' event.Broken = Moved run r step buf buf' × (out' ≡ out) × (r.put ≡ run.put) × (r.is_going ≡ false)

pub record Followed (run r : Run) (step : Step) (buf buf' out out' : List ℕ) : Type 0 where
  pub handed : Handed (handed_by run out step.event)
  pub turned : turned_by run r step buf buf' out out' step.event

-- a turn is a step of the stream, with work and marks of these lengths lent, and the store is the step's
pub record Turned (run r : Run) (buf buf' out out' store store' : List ℕ) (work marks : ℕ) : Type 0 where
  pub followed : Followed run r (step_of run.state (pending run buf) store work marks) buf buf' out out'
  pub stored : store' ≡ stepped_store run.state (pending run buf) store
