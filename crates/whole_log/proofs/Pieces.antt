-- Whatever the pieces in which the bytes come, what is printed is the log of all the bytes; and every list of pieces is read. Assumes nothing.
use Prim.Native.Nat.{ℕ, zero, suc, ◌<◌}
use mathlib.Core.Path.{◌≡◌, refl, sym, ap, subst, ◌∙◌}
use mathlib.Core.Bool.{false}
use mathlib.Core.List.{List, [], ◌∷◌, ◌++◌, append_assoc, append-nil}
use native.Mathlib.Omega.{arith}
use lib.Dec.{ltb, eqb}
use lib.ListN.{length, drop, length-drop}
use Rattle.lists.specs.Lists.{tab}
use Rattle.lists.specs.Marked.{pick}
use Rattle.lists.proofs.Grow.{length_tab}
use Rattle.settings.specs.Settings.{defaults_of}
use Rattle.records.specs.Reading.{next_of}
use Rattle.records.specs.declared.Record.{Record}
use Rattle.records.specs.declared.Record.TheVariants.{More, Settings, Frame, Large, Other, Broken}
use Rattle.lists.proofs.Cases.{either}
use Rattle.stream.specs.Stream.{first_state, passed_of, over_of, act_of, step_of, end_of}
use Rattle.stream.specs.Memory.{stepped_store}
use Rattle.stream.specs.declared.Event.TheVariants as event
use Rattle.lines.specs.declared.Line.{Line}
use Rattle.stream.specs.declared.State.{State}
use Rattle.stream.specs.declared.Step.{Step}
use Rattle.stream.proofs.Bounded.{bounded}
use Rattle.whole_log.specs.Log.{Log, line, last, log_of}
use Rattle.whole_log.specs.Pieces.{Reads, quiet, prints, takes, ends, breaks, all, outcome}
use Rattle.whole_log.specs.Whole.{AnyPieces, EveryReading, LogIsPrinted, NothingElse}
use Rattle.lists.proofs.Cases.{some}
use Rattle.whole_log.proofs.Right.{step_right, end_right}
use Rattle.whole_log.proofs.Store.{any_store}

module _ (k m : ℕ) where
  read_right : {st : State} {store s : List ℕ} {ps : List (List ℕ)} {l : Log} → Reads k m st store s ps l → l ≡ outcome k m st store (s ++ all ps)
  unfolding all
  read_right {st} {store} {s} {ps} (quiet e r) = read_right r ∙ sym (rw e at (step_right k m st store s (all ps)))
  read_right {st} {store} {s} {ps} (prints {x = x} e r) = ap (line x) (read_right r) ∙ sym (rw e at (step_right k m st store s (all ps)))
  read_right {st} {store} {s} (takes {p = p} {ps = ps} e r) = read_right r ∙ ap (outcome k m st store) (append_assoc s p (all ps))
  read_right {st} {store} {s} (ends e) = sym (end_right k m st store s e) ∙ ap (outcome k m st store) (sym (append-nil s))
  read_right {st} {store} {s} {ps} (breaks e) = sym (rw e at (step_right k m st store s (all ps)))

-- THE LAW
pub pieces : AnyPieces
pieces k m st store s ps l r = read_right k m r

-- ---- every list of pieces is read

-- a step that neither wants more nor breaks uses bytes
data Moved (r : Step) : Type 0 where
  wants : r.event ≡ event.More → Moved r
  stops : r.event ≡ event.Broken → Moved r
  goes : 0 < r.used → r.event ≡ event.Quiet → Moved r
  tells : 0 < r.used → (x : Line) → r.event ≡ event.Print x → Moved r

module _ (k m : ℕ) (st : State) (store s : List ℕ) where
  act_moves : (r : Record) → Moved (act_of st s store k m r)
  unfolding act_of
  act_moves More = wants refl
  act_moves (Settings cfg) = goes (omega arith) refl
  act_moves (Frame w h n) = tells (omega arith) _ refl
  act_moves (Large n) = goes (omega arith) refl
  act_moves (Other n) = goes (omega arith) refl
  act_moves Broken = stops refl

  over_moves : eqb st.rest 0 ≡ false → Moved (over_of st (length s))
  unfolding over_of passed_of
  over_moves z =
      either Moved (eqb (length s) 0) _ _ (λ a. wants refl)
      (λ a. either Moved (ltb (length s) st.rest) _ _ (λ b. goes (some a) refl)
      (λ b. either Moved st.large _ _ (λ d. tells (some z) _ refl) (λ d. goes (some z) refl)))

  moves : Moved (step_of st s store k m)
  unfolding step_of
  moves = either Moved (eqb st.rest 0) _ _ (λ e. act_moves (next_of s)) (λ e. over_moves e)

abbrev Answers : ℕ → ℕ → State → List ℕ → List ℕ → List (List ℕ) → Type 0
Answers k m st store s ps = (l : Log) × Reads k m st store s ps l

module _ (k m : ℕ) (ps : List (List ℕ)) (more : (st : State) (store s : List ℕ) → (step_of st s store k m).event ≡ event.More → Answers k m st store s ps) where
  onward : (st : State) (store s : List ℕ) → ((st' : State) (store' s' : List ℕ) → length s' < length s → Answers k m st' store' s' ps)
      → Moved (step_of st s store k m) → Answers k m st store s ps
  onward st store s next (wants e) = more st store s e
  onward st store s next (stops e) = (last (end_of st (length s)), breaks e)
  onward st store s next (goes u e) =
      let r = step_of st s store k m in
      let a = next r.state (stepped_store st s store) (drop r.used s) (omega (arith, length-drop r.used s, (bounded st s store k m).within)) in
      (a.0, quiet e a.1)
  onward st store s next (tells u x e) =
      let r = step_of st s store k m in
      let a = next r.state (stepped_store st s store) (drop r.used s) (omega (arith, length-drop r.used s, (bounded st s store k m).within)) in
      (line x a.0, prints e a.1)

  -- by how many bytes are at hand
  stepping : (t : ℕ) (st : State) (store s : List ℕ) → length s < t → Answers k m st store s ps
  stepping zero st store s h = absurd (omega arith)
  stepping (suc t) st store s h = onward st store s (λ st' store' s' l. stepping t st' store' s' (omega arith)) (moves k m st store s)

pub answers : EveryReading
answers k m [] st store s = stepping k m [] (λ st' store' s' e. (last (end_of st' (length s')), ends e)) (suc (length s)) st store s (omega arith)
answers k m (p ∷ ps) st store s =
    stepping k m (p ∷ ps) (λ st' store' s' e. let a = answers k m ps st' store' (s' ++ p) in (a.0, takes e a.1)) (suc (length s)) st store s (omega arith)

-- ---- THE THEOREMS, of the program

pub whole : NothingElse
unfolding outcome log_of pick
whole store size ps l r = read_right 12288 16 r ∙ any_store 12288 16 defaults_of store (tab 1024 (λ _. 0)) (size ∙ sym (length_tab 1024 (λ _. 0))) 0 (all ps)

pub printed : LogIsPrinted
printed store size ps = let a = answers 12288 16 ps first_state store [] in subst (Reads 12288 16 first_state store [] ps) (whole store size ps a.0 a.1) a.1
