-- A reading of a stream that comes in pieces, by the crate stream's steps, one rule for each event; and what is still to be printed in a state.
-- Definitions only.
use Rattle.std.specs.Prelude.{ℕ, ◌≡◌, List, [], ◌∷◌, ◌++◌, eqb, length, drop}
use Rattle.lists.specs.Marked.{pick}
use Rattle.stream.specs.Stream.{step_of, end_of}
use Rattle.stream.specs.Memory.{stepped_store}
use Rattle.stream.specs.declared.Event.TheVariants as event
use Rattle.lines.specs.declared.Line.{Line}
use Rattle.stream.specs.declared.State.{State}
use Rattle.whole_log.specs.Log.{Log, line, last, past, log_from}

-- Reads work marks st store s ps l: with work and marks of these lengths lent, in the state st, with the bytes s at hand and the pieces ps still to come, l is printed.
-- A step is taken; where it wants more, the next piece is; where none is left, and at a broken record, the last line is printed.
pub data Reads (work marks : ℕ) : State → List ℕ → List ℕ → List (List ℕ) → Log → Type 0 where
  quiet : {st : State} {store s : List ℕ} {ps : List (List ℕ)} {l : Log} → (step_of st s store work marks).event ≡ event.Quiet
      → Reads work marks (step_of st s store work marks).state (stepped_store st s store) (drop (step_of st s store work marks).used s) ps l → Reads work marks st store s ps l
  prints : {st : State} {store s : List ℕ} {ps : List (List ℕ)} {l : Log} {x : Line} → (step_of st s store work marks).event ≡ event.Print x
      → Reads work marks (step_of st s store work marks).state (stepped_store st s store) (drop (step_of st s store work marks).used s) ps l → Reads work marks st store s ps (line x l)
  takes : {st : State} {store s p : List ℕ} {ps : List (List ℕ)} {l : Log} → (step_of st s store work marks).event ≡ event.More
      → Reads work marks st store (s ++ p) ps l → Reads work marks st store s (p ∷ ps) l
  ends : {st : State} {store s : List ℕ} → (step_of st s store work marks).event ≡ event.More → Reads work marks st store s [] (last (end_of st (length s)))
  breaks : {st : State} {store s : List ℕ} {ps : List (List ℕ)} → (step_of st s store work marks).event ≡ event.Broken
      → Reads work marks st store s ps (last (end_of st (length s)))

-- all the bytes of some pieces
unfoldable pub all : List (List ℕ) → List ℕ
all [] = []
all (p ∷ ps) = p ++ all ps

-- what is still to be printed in a state, where s are all the bytes still to come
unfoldable pub outcome : ℕ → ℕ → State → List ℕ → List ℕ → Log
outcome work marks st store s =
    let rec = log_from work marks st.aligner store in
    pick (eqb st.rest 0) (rec st.frames s) (past rec st.large st.rest st.frames s)
