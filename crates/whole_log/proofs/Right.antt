-- A step prints what the log says, whatever bytes follow; and where a step wants more and nothing comes, the log ends as `end_of` says. Assumes
-- nothing.
use Prim.Native.Nat.{ℕ, zero, suc, zero-le, ◌+◌, ◌-◌, ◌≤◌, ◌<◌}
use mathlib.Core.Path.{◌≡◌, refl, sym, ap, ◌∙◌}
use mathlib.Core.Bool.{Bool, true, false}
use mathlib.Core.List.{List, [], ◌++◌}
use mathlib.Core.Logic.{⊎_elim}
use native.Mathlib.Omega.{arith}
use borrow.Author.Tests.{ltb-true, ltb-false, lt-ltb, le-ltb, eqb-true, ne_eqb}
use lib.Dec.{ltb, eqb}
use lib.ListN.{length, drop, length-drop, length-append, drop_of_length-le}
use lib.Seq.{take-append-le, drop-append-le, drop-append-add}
use Rattle.lists.specs.Marked.{pick}
use Rattle.records.specs.Reading.{next_of}
use Rattle.records.specs.declared.Record.{Record}
use Rattle.records.specs.declared.Record.TheVariants.{More, Settings, Frame, Large, Other, Broken}
use Rattle.lists.proofs.Cases.{either}
use Rattle.records.proofs.Known.{Known, known}
use Rattle.records.proofs.Longer.{grow}
use Rattle.lines.specs.Lines.{line_of}
use Rattle.stream.specs.Stream.{too_large, passed_of, over_of, act_of, step_of, end_of}
use Rattle.stream.specs.Memory.{at_frame, store_by, stepped_store}
use Rattle.stream.specs.declared.End.TheVariants.{Done, Cut}
use Rattle.stream.specs.declared.Event.{Event}
use Rattle.stream.specs.declared.Event.TheVariants as event
use Rattle.stream.specs.declared.State.{State}
use Rattle.stream.specs.declared.Step.{Step}
use Rattle.whole_log.specs.Log.{Log, line, last, past, from, log_from}
use Rattle.whole_log.specs.Pieces.{outcome}
use Rattle.lists.proofs.Cases.{choose, some}
use Rattle.whole_log.proofs.Equation.{log_is}

ltb_shift : (a b c : ℕ) → ltb (a + b) (a + c) ≡ ltb b c
ltb_shift a b c =
    choose (ltb b c) (λ e. lt-ltb (a + b) (a + c) (omega (arith, ltb-true b c e)) ∙ sym e)
    (λ e. le-ltb (a + b) (a + c) (omega (arith, ltb-false b c e)) ∙ sym e)

-- ---- bytes that are read over

module _ (rec : ℕ → List ℕ → Log) (large : Bool) (f : ℕ) where
  -- they may come in two parts
  past_shift : (n : ℕ) (s t : List ℕ) → past rec large (length s + n) f (s ++ t) ≡ past rec large n f t
  unfolding past
  past_shift n s t = rw (length-append s t, ltb_shift (length s) (length t) n, drop-append-add s t n)

  -- they are all at hand
  past_over : (n : ℕ) (s t : List ℕ) → n ≤ length s
      → past rec large n f (s ++ t) ≡ pick large (line (line_of f too_large 0 0) (rec (f + 1) (drop n s ++ t))) (rec f (drop n s ++ t))
  unfolding past pick
  past_over n s t h = rw (le-ltb (length (s ++ t)) n (omega (arith, length-append s t)), drop-append-le n s t h)

-- where there are none
past_none : (rec : ℕ → List ℕ → Log) (n f : ℕ) (s : List ℕ) → past rec false n f s ≡ pick (eqb n 0) (rec f s) (past rec false n f s)
unfolding past pick
past_none rec zero f s = rw (le-ltb (length s) 0 zero-le)
past_none rec (suc n) f s = rw (ne_eqb (suc n) 0 (λ e. omega arith))

-- ---- a step against the log

-- what a step prints before l, where e ends a log at a broken record
abbrev pub emit : Event → Log → Log → Log
emit event.More e l = l
emit event.Quiet e l = l
emit (event.Print x) e l = line x l
emit event.Broken e l = e

module _ (k m : ℕ) (st : State) (store s t : List ℕ) where
  abbrev rec : ℕ → List ℕ → Log
  rec = log_from k m st.aligner store

  -- l is the log where the step r is taken at s, leaves the store x, and t follows
  abbrev Right : Log → Step → List ℕ → Type 0
  Right l r x = l ≡ emit r.event (last (end_of st (length s))) (outcome k m r.state x (drop r.used s ++ t))

  grown : (r : Record) → next_of s ≡ r → (r ≡ More → ⊥) → next_of (s ++ t) ≡ r
  grown r e n = ⊎_elim (λ h. absurd (n (sym e ∙ h))) (λ g. g ∙ e) (grow s t)

  opened : (r : Record) → next_of s ≡ r → (r ≡ More → ⊥) → 0 < length s → rec st.frames (s ++ t) ≡ from k m (log_from k m) st.aligner store st.frames (s ++ t) r
  unfolding pick
  opened r e n h =
      let q : eqb (length (s ++ t)) 0 ≡ false = ne_eqb (length (s ++ t)) 0 (λ x. omega (arith, length-append s t)) in
      log_is k m st.aligner store st.frames (s ++ t) ∙ rw (q, grown r e n)

  broken : eqb st.rest 0 ≡ true → eqb (length s) 0 ≡ false → end_of st (length s) ≡ Cut st.frames
  unfolding end_of pick
  broken p q = rw (p, q)

  act_right : (r : Record) → next_of s ≡ r → Known s r → eqb st.rest 0 ≡ true → Right (rec st.frames (s ++ t)) (act_of st s store k m r) (store_by s store r)
  unfolding act_of store_by at_frame outcome pick from
  act_right More e h z = rw z
  act_right (Settings cfg) e h z =
      rw z
      (opened (Settings cfg) e (λ x. let y : ◌≡◌ {A = ℕ} 0 1 = cc in omega arith) (omega arith) ∙ rw (drop-append-le 20 s t h))
  act_right (Frame w i n) e h z =
      let ten : 10 ≤ length s = omega (arith, h.0) in
      let all : n ≤ length (drop 10 s) = omega (arith, h.0, length-drop 10 s) in
      rw z
      (opened (Frame w i n) e (λ x. let y : ◌≡◌ {A = ℕ} 0 1 = cc in omega arith) (omega (arith, h.0))
      ∙ rw (drop-append-le 10 s t ten, take-append-le n (drop 10 s) t all, drop-append-le (10 + n) s t h.0))
  act_right (Large n) e h z =
      opened (Large n) e (λ x. let y : ◌≡◌ {A = ℕ} 0 1 = cc in omega arith) (omega (arith, h.0))
      ∙ rw (drop-append-le 6 s t h.0, ne_eqb n 0 (λ x. omega (arith, h.1)))
  act_right (Other n) e h z =
      opened (Other n) e (λ x. let y : ◌≡◌ {A = ℕ} 0 1 = cc in omega arith) (omega arith)
      ∙ rw (drop-append-le 6 s t h) (past_none rec n st.frames (drop 6 s ++ t))
  act_right Broken e h z =
      opened Broken e (λ x. let y : ◌≡◌ {A = ℕ} 0 1 = cc in omega arith) (omega arith)
      ∙ ap last (sym (broken z (ne_eqb (length s) 0 (λ x. omega arith))))

  over_right : eqb st.rest 0 ≡ false → Right (past rec st.large st.rest st.frames (s ++ t)) (over_of st (length s)) store
  unfolding over_of passed_of outcome pick
  over_right z =
      let n = length s in
      let f = st.frames in
      let P : Step → Type 0 = λ r. Right (past rec st.large st.rest f (s ++ t)) r store in
      either P (eqb n 0) _ _ (λ a. rw z)
      (λ a. either P (ltb n st.rest) _ _
      (λ b.
      let h : n < st.rest = ltb-true n st.rest b in
      let j = st.rest - n in
      let e : st.rest ≡ n + j = omega arith in
      let o : eqb j 0 ≡ false = ne_eqb j 0 (λ x. omega arith) in
      let d : drop n s ≡ [] = drop_of_length-le s {i = n} (omega arith) in
      rw (o, d) (ap (λ (i : ℕ). past rec st.large i f (s ++ t)) e ∙ past_shift rec st.large f j s t))
      (λ b.
      let o = past_over rec st.large f st.rest s t (ltb-false n st.rest b) in
      either P st.large _ _ (λ i. o ∙ rw i) (λ i. o ∙ rw i)))

  -- THE LAW of a step
  pub step_right : Right (outcome k m st store (s ++ t)) (step_of st s store k m) (stepped_store st s store)
  unfolding outcome step_of stepped_store pick
  step_right = choose (eqb st.rest 0) (λ e. rw e (act_right (next_of s) refl (known s) e)) (λ e. rw e (over_right e))

-- ---- the end

module _ (k m : ℕ) (st : State) (store s : List ℕ) where
  abbrev rec' : ℕ → List ℕ → Log
  rec' = log_from k m st.aligner store

  start_end : (r : Record) → next_of s ≡ r → (act_of st s store k m r).event ≡ event.More
      → rec' st.frames s ≡ last (pick (eqb (length s) 0) (Done st.frames) (Cut st.frames))
  unfolding act_of from pick
  start_end More e x = log_is k m st.aligner store st.frames s ∙ choose (eqb (length s) 0) (λ a. rw a) (λ a. rw (a, e))
  start_end (Settings cfg) e x = absurd (let z : ◌≡◌ {A = ℕ} 0 1 = cc in omega arith)
  start_end (Frame w i n) e x = absurd (let z : ◌≡◌ {A = ℕ} 0 1 = cc in omega arith)
  start_end (Large n) e x = absurd (let z : ◌≡◌ {A = ℕ} 0 1 = cc in omega arith)
  start_end (Other n) e x = absurd (let z : ◌≡◌ {A = ℕ} 0 1 = cc in omega arith)
  start_end Broken e x = absurd (let z : ◌≡◌ {A = ℕ} 0 1 = cc in omega arith)

  over_end : eqb st.rest 0 ≡ false → (over_of st (length s)).event ≡ event.More → past rec' st.large st.rest st.frames s ≡ last (Cut st.frames)
  unfolding over_of passed_of past pick
  over_end z =
      let P : Step → Type 0 = λ r. r.event ≡ event.More → past rec' st.large st.rest st.frames s ≡ last (Cut st.frames) in
      either P (eqb (length s) 0) _ _ (λ a x. rw (lt-ltb (length s) st.rest (omega (arith, eqb-true (length s) 0 a, some {n = st.rest} z))))
      (λ a. either P (ltb (length s) st.rest) _ _ (λ b x. absurd (let y : ◌≡◌ {A = ℕ} 0 1 = cc in omega arith))
      (λ b. either P st.large _ _ (λ d x. absurd (let y : ◌≡◌ {A = ℕ} 0 1 = cc in omega arith)) (λ d x. absurd (let y : ◌≡◌ {A = ℕ} 0 1 = cc in omega arith))))

  -- THE LAW of the end
  pub end_right : (step_of st s store k m).event ≡ event.More → outcome k m st store s ≡ last (end_of st (length s))
  unfolding outcome step_of end_of pick
  end_right = choose (eqb st.rest 0) (λ e. rw e (λ x. start_end (next_of s) refl x)) (λ e. rw e (λ x. over_end e x))
