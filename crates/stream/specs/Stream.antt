-- The program of document 01, a step at a time: what comes of the bytes at hand, where the reading stands after them, and how it ends. Definitions only.
use Rattle.std.specs.Prelude.{ℕ, ◌+◌, ◌-◌, ◌≤◌, ◌<◌, ◌≡◌, Bool, true, false, List, ltb, eqb, length, take, drop, Err}
use Rattle.lists.specs.Marked.{pick}
use Rattle.settings.specs.Settings.{defaults_of}
use Rattle.refusals.specs.declared.Refusal.TheVariants.{StoreTooShort}
use Rattle.pose.specs.declared.Outcome.{Outcome}
use Rattle.aligner.specs.Aligner.{fresh_of, estimate_of}
use Rattle.aligner.specs.declared.EccAligner.{EccAligner}
use Rattle.lines.specs.Lines.{line_of}
use Rattle.records.specs.Reading.{next_of}
use Rattle.records.specs.declared.Record.{Record}
use Rattle.records.specs.declared.Record.TheVariants.{More, Settings, Frame, Large, Other, Broken}
use Rattle.stream.specs.declared.End.{End}
use Rattle.stream.specs.declared.End.TheVariants.{Done, Cut}
use Rattle.stream.specs.declared.Event.{Event}
use Rattle.stream.specs.declared.Event.TheVariants as event
use Rattle.stream.specs.declared.State.{State}
use Rattle.stream.specs.declared.Step.{Step}

-- ---- frames

-- the answer to a frame with a body above 1,028 bytes
abbrev pub too_large : Outcome
too_large = record { passes = 0; answer = Err StoreTooShort }

-- the pixels of a frame at the start of s
abbrev pub pixels_of : List ℕ → ℕ → List ℕ
pixels_of s n = take n (drop 10 s)

-- ---- states and steps

abbrev pub state_of : ℕ → Bool → ℕ → EccAligner → State
state_of n large f a = record { rest = n; large = large; frames = f; aligner = a }

-- the defaults, nothing remembered, no frame
abbrev pub first_state : State
first_state = state_of 0 false 0 (fresh_of defaults_of)

abbrev pub did : ℕ → Event → State → Step
did n e st = record { used = n; event = e; state = st }

-- a body that was read over is a frame's, and it is over: now its line is printed. Its sides were not looked at: a refusal's numbers are 0 whatever they are
unfoldable pub passed_of : State → Step
passed_of st = did st.rest (event.Print (line_of st.frames too_large 0 0)) (state_of 0 false (st.frames + 1) st.aligner)

-- a body is read over, with n bytes at hand
unfoldable pub over_of : State → ℕ → Step
over_of st n =
    pick (eqb n 0)
    (did 0 event.More st)
    (pick (ltb n st.rest)
    (did n event.Quiet (state_of (st.rest - n) st.large st.frames st.aligner))
    (pick st.large (passed_of st) (did st.rest event.Quiet (state_of 0 st.large st.frames st.aligner))))

-- a record at the start of s, with a store, and with work and marks of these lengths lent
unfoldable pub act_of : State → List ℕ → List ℕ → ℕ → ℕ → Record → Step
act_of st s store work marks More = did 0 event.More st
act_of st s store work marks (Settings cfg) = did 20 event.Quiet (state_of st.rest st.large st.frames (fresh_of cfg))
act_of st s store work marks (Frame w h n) =
    let reply = estimate_of st.aligner (pixels_of s n) w h store work marks in
    did (10 + n) (event.Print (line_of st.frames reply.outcome w h)) (state_of st.rest st.large (st.frames + 1) reply.aligner)
act_of st s store work marks (Large n) = did 6 event.Quiet (state_of n true st.frames st.aligner)
act_of st s store work marks (Other n) = did 6 event.Quiet (state_of n false st.frames st.aligner)
act_of st s store work marks Broken = did 0 event.Broken st

-- the bytes s at hand: a record's, or those of a body that is read over
unfoldable pub step_of : State → List ℕ → List ℕ → ℕ → ℕ → Step
step_of st s store work marks = pick (eqb st.rest 0) (act_of st s store work marks (next_of s)) (over_of st (length s))

-- what a caller counts on: a step uses bytes that are at hand, and answers one frame at the most; where it wants more, few are at hand
pub record StepBounds (st : State) (s : List ℕ) (r : Step) : Type 0 where
  pub within : r.used ≤ length s
  pub one : r.state.frames ≤ st.frames + 1
  pub few : r.event ≡ event.More → length s < 1034

-- the last line, where no step can be taken and n bytes are left: done where no record is begun
unfoldable pub end_of : State → ℕ → End
end_of st n = pick (eqb st.rest 0) (pick (eqb n 0) (Done st.frames) (Cut st.frames)) (Cut st.frames)
