-- What `advance` promises, put together: at a record, and where a body is read over. Assumes nothing.
use Prim.Native.Nat.{ℕ}
use mathlib.Core.Path.{◌≡◌, sym, ap, subst, ◌∙◌}
use mathlib.Core.Bool.{true, false}
use mathlib.Core.List.{List}
use lib.Dec.{eqb}
use lib.Ieee.{Float}
use lib.ListN.{length}
use Rattle.lists.proofs.Cases.{pick_true, pick_false}
use Rattle.records.specs.Reading.{next_of}
use Rattle.records.specs.declared.Record.{Record}
use Rattle.stream.specs.Memory.{store_by, work_by, marks_by, stepped_store, stepped_work, stepped_marks}
use Rattle.stream.specs.Stream.{over_of, act_of, step_of, StepBounds}
use Rattle.stream.specs.declared.State.{State}
use Rattle.stream.specs.declared.Step.{Step}
use Rattle.stream.proofs.Bounded.{bounded}

module _ (st : State) (s store : List ℕ) (work : List Float) (marks : List ℕ) where
  abbrev k : ℕ
  k = length work

  abbrev m : ℕ
  m = length marks

  -- the step r, and store, work and marks after it
  abbrev pub Meets : Step → List ℕ → List Float → List ℕ → Type 0
  Meets r x y z =
      ((r ≡ step_of st s store k m) × StepBounds st s r)
      × ((x ≡ stepped_store st s store) × ((y ≡ stepped_work st s (length store) work m) × (z ≡ stepped_marks st s (length store) k marks)))

  stepped : (r : Step) → r ≡ step_of st s store k m → (r ≡ step_of st s store k m) × StepBounds st s r
  stepped r e = (e, subst (StepBounds st s) (sym e) (bounded st s store k m))

  pub at_record : eqb st.rest 0 ≡ true → (q : Record) → next_of s ≡ q → {r : Step} {x z : List ℕ} {y : List Float} → r ≡ act_of st s store k m q
      → x ≡ store_by s store q → y ≡ work_by st s (length store) work m q → z ≡ marks_by st s (length store) k marks q → Meets r x y z
  unfolding step_of stepped_store stepped_work stepped_marks
  at_record z q e {r} a b c d = (
    stepped r (a ∙ sym (pick_true _ _ _ z ∙ ap (act_of st s store k m) e)),
    (
      b ∙ sym (pick_true _ _ _ z ∙ ap (store_by s store) e),
      (
        c ∙ sym (pick_true _ _ _ z ∙ ap (work_by st s (length store) work m) e),
        d ∙ sym (pick_true _ _ _ z ∙ ap (marks_by st s (length store) k marks) e),
      ),
    ),
  )

  pub read_over : eqb st.rest 0 ≡ false → {r : Step} → r ≡ over_of st (length s) → Meets r store work marks
  unfolding step_of stepped_store stepped_work stepped_marks
  read_over z {r} a = (stepped r (a ∙ sym (pick_false _ _ _ z)), (sym (pick_false _ _ _ z), (sym (pick_false _ _ _ z), sym (pick_false _ _ _ z))))
