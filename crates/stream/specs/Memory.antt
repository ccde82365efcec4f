-- The lent memory after a step: only a frame that is held changes it, and as the aligner does. Definitions only.
use Rattle.std.specs.Prelude.{ℕ, List, eqb, length, Float}
use Rattle.lists.specs.Marked.{pick}
use Rattle.checks.specs.Checks.{size_of}
use Rattle.alignment.specs.Aligned.{work_after, marks_after}
use Rattle.aligner.specs.Aligner.{refused_of, store_after}
use Rattle.records.specs.Reading.{next_of}
use Rattle.records.specs.declared.Record.{Record}
use Rattle.records.specs.declared.Record.TheVariants.{More, Settings, Frame, Large, Other, Broken}
use Rattle.stream.specs.declared.State.{State}
use Rattle.stream.specs.Stream.{pixels_of}

-- what a frame makes of x, which other records leave as it was
unfoldable pub at_frame : {A : Type 0} → Record → A → (ℕ → ℕ → ℕ → A) → A
at_frame (Frame w h n) x f = f w h n
at_frame More x f = x
at_frame (Settings cfg) x f = x
at_frame (Large n) x f = x
at_frame (Other n) x f = x
at_frame Broken x f = x

-- ---- after a record at the start of s. Of store, work and marks those that a definition does not hand back are given by their lengths

unfoldable pub store_by : List ℕ → List ℕ → Record → List ℕ
store_by s store r = at_frame r store (λ w h n. store_after (pixels_of s n) w h store)

unfoldable pub work_by : State → List ℕ → ℕ → List Float → ℕ → Record → List Float
work_by st s store work marks r =
    let a = st.aligner in
    at_frame r work (λ w h n. work_after (refused_of a (length (pixels_of s n)) w h store (length work) marks) (size_of a.cfg w h) work)

unfoldable pub marks_by : State → List ℕ → ℕ → ℕ → List ℕ → Record → List ℕ
marks_by st s store work marks r =
    let a = st.aligner in
    at_frame r marks (λ w h n. marks_after (refused_of a (length (pixels_of s n)) w h store work (length marks)) (size_of a.cfg w h) marks)

-- ---- after a step: a body that is read over leaves all as it was

unfoldable pub stepped_store : State → List ℕ → List ℕ → List ℕ
stepped_store st s store = pick (eqb st.rest 0) (store_by s store (next_of s)) store

unfoldable pub stepped_work : State → List ℕ → ℕ → List Float → ℕ → List Float
stepped_work st s store work marks = pick (eqb st.rest 0) (work_by st s store work marks (next_of s)) work

unfoldable pub stepped_marks : State → List ℕ → ℕ → ℕ → List ℕ → List ℕ
stepped_marks st s store work marks = pick (eqb st.rest 0) (marks_by st s store work marks (next_of s)) marks
