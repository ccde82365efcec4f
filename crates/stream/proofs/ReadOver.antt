-- A body that is read over, by its four cases. Assumes nothing.
use Prim.Native.Nat.{ℕ, ◌-◌, ◌≤◌, ◌<◌}
use mathlib.Core.Path.{◌≡◌, ◌∙◌}
use mathlib.Core.Bool.{true, false}
use borrow.Author.Tests.{lt-ltb, le-ltb, eq-eqb, ne_eqb}
use Rattle.lists.proofs.Cases.{pick_true, pick_false}
use Rattle.stream.specs.Stream.{state_of, did, passed_of, over_of}
use Rattle.stream.specs.declared.Event.TheVariants as event
use Rattle.stream.specs.declared.State.{State}

module _ (st : State) (n : ℕ) where
  pub over_none : n ≡ 0 → over_of st n ≡ did 0 event.More st
  unfolding over_of
  over_none e = pick_true _ _ _ (eq-eqb n 0 e)

  module _ (some : n ≡ 0 → ⊥) where
    pub over_part : n < st.rest → over_of st n ≡ did n event.Quiet (state_of (st.rest - n) st.large st.frames st.aligner)
    unfolding over_of
    over_part h = pick_false _ _ _ (ne_eqb n 0 some) ∙ pick_true _ _ _ (lt-ltb n st.rest h)

    pub over_large : st.rest ≤ n → st.large ≡ true → over_of st n ≡ passed_of st
    unfolding over_of
    over_large h e = pick_false _ _ _ (ne_eqb n 0 some) ∙ pick_false _ _ _ (le-ltb n st.rest h) ∙ pick_true _ _ _ e

    pub over_other : st.rest ≤ n → st.large ≡ false → over_of st n ≡ did st.rest event.Quiet (state_of 0 st.large st.frames st.aligner)
    unfolding over_of
    over_other h e = pick_false _ _ _ (ne_eqb n 0 some) ∙ pick_false _ _ _ (le-ltb n st.rest h) ∙ pick_false _ _ _ e
