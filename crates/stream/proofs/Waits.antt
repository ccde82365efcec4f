-- A step that wants more has done nothing: no byte is used, and state and store are as they were. Assumes nothing.
use Prim.Native.Nat.{ℕ}
use mathlib.Core.Path.{◌≡◌, refl}
use mathlib.Core.Bool.{Bool, true, false}
use mathlib.Core.List.{List}
use native.Mathlib.Omega.{arith}
use lib.Dec.{ltb, eqb}
use lib.ListN.{length}
use Rattle.lists.specs.Marked.{pick}
use Rattle.records.specs.Reading.{next_of}
use Rattle.records.specs.declared.Record.{Record}
use Rattle.records.specs.declared.Record.TheVariants.{More, Settings, Frame, Large, Other, Broken}
use Rattle.lists.proofs.Cases.{either}
use Rattle.stream.specs.Memory.{at_frame, store_by, stepped_store}
use Rattle.stream.specs.Stream.{passed_of, over_of, act_of, step_of}
use Rattle.stream.specs.declared.Event.TheVariants as event
use Rattle.stream.specs.declared.State.{State}
use Rattle.stream.specs.declared.Step.{Step}

module _ (st : State) (s store : List ℕ) (k m : ℕ) where
  -- r wants more, and leaves the store x
  abbrev pub Waits : Step → List ℕ → Type 0
  Waits r x = r.event ≡ event.More → (r.used ≡ 0) × (r.state ≡ st) × (x ≡ store)

  act_waits : (r : Record) → Waits (act_of st s store k m r) (store_by s store r)
  unfolding act_of store_by at_frame
  act_waits More e = (refl, refl, refl)
  act_waits (Settings cfg) e = absurd (let z : ◌≡◌ {A = ℕ} 0 1 = cc in omega arith)
  act_waits (Frame w h n) e = absurd (let z : ◌≡◌ {A = ℕ} 0 1 = cc in omega arith)
  act_waits (Large n) e = absurd (let z : ◌≡◌ {A = ℕ} 0 1 = cc in omega arith)
  act_waits (Other n) e = absurd (let z : ◌≡◌ {A = ℕ} 0 1 = cc in omega arith)
  act_waits Broken e = absurd (let z : ◌≡◌ {A = ℕ} 0 1 = cc in omega arith)

  over_waits : Waits (over_of st (length s)) store
  unfolding over_of passed_of
  over_waits =
      let P : Step → Type 0 = λ r. Waits r store in
      either P (eqb (length s) 0) _ _ (λ a e. (refl, refl, refl))
      (λ a. either P (ltb (length s) st.rest) _ _ (λ b e. absurd (let z : ◌≡◌ {A = ℕ} 0 1 = cc in omega arith))
      (λ b. either P st.large _ _ (λ d e. absurd (let z : ◌≡◌ {A = ℕ} 0 1 = cc in omega arith)) (λ d e. absurd (let z : ◌≡◌ {A = ℕ} 0 1 = cc in omega arith))))

  by_rest : (b : Bool) → Waits (pick b (act_of st s store k m (next_of s)) (over_of st (length s))) (pick b (store_by s store (next_of s)) store)
  unfolding pick
  by_rest true = act_waits (next_of s)
  by_rest false = over_waits

  -- THE LAW
  pub waits : Waits (step_of st s store k m) (stepped_store st s store)
  unfolding step_of stepped_store
  waits = by_rest (eqb st.rest 0)
