-- What a caller counts on: a step uses bytes that are at hand, answers one frame at the most, and wants more only where few are at hand. Assumes
-- nothing.
use Prim.Native.Nat.{ℕ, zero-le, ◌+◌, ◌≤◌}
use mathlib.Core.Path.{◌≡◌}
use mathlib.Core.List.{List}
use native.Mathlib.Omega.{arith}
use borrow.Author.Tests.{ltb-false, eqb-true}
use lib.ListN.{length}
use Rattle.records.specs.Reading.{next_of}
use Rattle.records.specs.declared.Record.{Record}
use Rattle.records.specs.declared.Record.TheVariants.{More, Settings, Frame, Large, Other, Broken}
use Rattle.lists.proofs.Cases.{either}
use Rattle.records.proofs.Known.{Known, known}
use Rattle.stream.specs.Stream.{passed_of, over_of, act_of, step_of, StepBounds}
use Rattle.stream.specs.declared.Event.TheVariants as event
use Rattle.stream.specs.declared.State.{State}
use Rattle.stream.specs.declared.Step.{Step}

module _ (st : State) (s : List ℕ) where
  -- a step that does not want more
  taken : (r : Step) → r.used ≤ length s → r.state.frames ≤ st.frames + 1 → (r.event ≡ event.More → ⊥) → StepBounds st s r
  taken r u f n = record { within = u; one = f; few = λ e. absurd (n e) }

  act_bounded : (store : List ℕ) (k m : ℕ) (r : Record) → Known s r → StepBounds st s (act_of st s store k m r)
  unfolding act_of
  act_bounded store k m More h = record { within = zero-le; one = omega arith; few = λ e. h }
  act_bounded store k m (Settings cfg) h = taken _ h (omega arith) (λ e. let z : ◌≡◌ {A = ℕ} 0 1 = cc in omega arith)
  act_bounded store k m (Frame w i n) h = taken _ h.0 (omega arith) (λ e. let z : ◌≡◌ {A = ℕ} 0 1 = cc in omega arith)
  act_bounded store k m (Large n) h = taken _ h.0 (omega arith) (λ e. let z : ◌≡◌ {A = ℕ} 0 1 = cc in omega arith)
  act_bounded store k m (Other n) h = taken _ h (omega arith) (λ e. let z : ◌≡◌ {A = ℕ} 0 1 = cc in omega arith)
  act_bounded store k m Broken h = taken _ zero-le (omega arith) (λ e. let z : ◌≡◌ {A = ℕ} 0 1 = cc in omega arith)

  over_bounded : StepBounds st s (over_of st (length s))
  unfolding over_of passed_of
  over_bounded =
      let P : Step → Type 0 = StepBounds st s in
      either P _ _ _ (λ a. record { within = zero-le; one = omega arith; few = λ e. omega (arith, eqb-true (length s) 0 a) })
      (λ a. either P _ _ _ (λ b. taken _ (omega arith) (omega arith) (λ e. let z : ◌≡◌ {A = ℕ} 0 1 = cc in omega arith))
      (λ b.
      let h : st.rest ≤ length s = ltb-false _ _ b in
      either P _ _ _ (λ d. taken _ h (omega arith) (λ e. let z : ◌≡◌ {A = ℕ} 0 1 = cc in omega arith))
      (λ d. taken _ h (omega arith) (λ e. let z : ◌≡◌ {A = ℕ} 0 1 = cc in omega arith))))

  -- THE LAW
  pub bounded : (store : List ℕ) (k m : ℕ) → StepBounds st s (step_of st s store k m)
  unfolding step_of
  bounded store k m = either (StepBounds st s) _ _ _ (λ a. act_bounded store k m (next_of s) (known s)) (λ a. over_bounded)
