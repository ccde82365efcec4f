-- A step that wants more leaves the store as it was, and one at a broken record uses nothing and leaves the state. Assumes nothing.
use Prim.Native.Nat.{ℕ}
use mathlib.Core.Path.{◌≡◌, refl}
use mathlib.Core.List.{List}
use native.Mathlib.Omega.{arith}
use lib.Dec.{ltb, eqb}
use lib.ListN.{length}
use Rattle.lists.specs.Marked.{pick}
use Rattle.lists.proofs.Cases.{choose, either}
use Rattle.records.specs.Reading.{next_of}
use Rattle.records.specs.declared.Record.{Record}
use Rattle.records.specs.declared.Record.TheVariants.{More, Settings, Frame, Large, Other, Broken}
use Rattle.stream.specs.Memory.{at_frame, store_by, stepped_store}
use Rattle.stream.specs.Stream.{passed_of, over_of, act_of, step_of}
use Rattle.stream.specs.declared.Event.TheVariants as event
use Rattle.stream.specs.declared.State.{State}
use Rattle.stream.specs.declared.Step.{Step}

module _ (k m : ℕ) (st : State) (store s : List ℕ) where
  more_store : (r : Record) → (act_of st s store k m r).event ≡ event.More → store_by s store r ≡ store
  unfolding act_of store_by at_frame
  more_store More e = refl
  more_store (Settings cfg) e = refl
  more_store (Frame w h n) e = absurd (let z : ◌≡◌ {A = ℕ} 0 1 = cc in omega arith)
  more_store (Large n) e = refl
  more_store (Other n) e = refl
  more_store Broken e = refl

  pub more_keeps : (step_of st s store k m).event ≡ event.More → stepped_store st s store ≡ store
  unfolding step_of stepped_store pick
  more_keeps = choose (eqb st.rest 0) (λ z. rw z (λ e. more_store (next_of s) e)) (λ z. rw z (λ e. refl))

  abbrev Stays : Step → Type 0
  Stays r = r.event ≡ event.Broken → (r.used ≡ 0) × (r.state ≡ st)

  act_stays : (r : Record) → Stays (act_of st s store k m r)
  unfolding act_of
  act_stays More e = absurd (let z : ◌≡◌ {A = ℕ} 0 1 = cc in omega arith)
  act_stays (Settings cfg) e = absurd (let z : ◌≡◌ {A = ℕ} 0 1 = cc in omega arith)
  act_stays (Frame w h n) e = absurd (let z : ◌≡◌ {A = ℕ} 0 1 = cc in omega arith)
  act_stays (Large n) e = absurd (let z : ◌≡◌ {A = ℕ} 0 1 = cc in omega arith)
  act_stays (Other n) e = absurd (let z : ◌≡◌ {A = ℕ} 0 1 = cc in omega arith)
  act_stays Broken e = (refl, refl)

  over_stays : Stays (over_of st (length s))
  unfolding over_of passed_of
  over_stays =
      either Stays (eqb (length s) 0) _ _ (λ a e. absurd (let z : ◌≡◌ {A = ℕ} 0 1 = cc in omega arith))
      (λ a. either Stays (ltb (length s) st.rest) _ _ (λ b e. absurd (let z : ◌≡◌ {A = ℕ} 0 1 = cc in omega arith))
      (λ b. either Stays st.large _ _ (λ d e. absurd (let z : ◌≡◌ {A = ℕ} 0 1 = cc in omega arith)) (λ d e. absurd (let z : ◌≡◌ {A = ℕ} 0 1 = cc in omega arith))))

  pub broken_stays : Stays (step_of st s store k m)
  unfolding step_of
  broken_stays = either Stays (eqb st.rest 0) _ _ (λ z. act_stays (next_of s)) (λ z. over_stays)
