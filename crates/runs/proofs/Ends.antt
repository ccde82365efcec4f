-- How a run goes on, and that it stays where it ended. Assumes nothing.
use Rattle.std.specs.Prelude.{Ok, Err}
use Prim.Native.Nat.{ℕ, zero, suc, ◌+◌, ◌-◌, ◌≤◌}
use mathlib.Core.Path.{◌≡◌, refl, sym, ap, ◌∙◌, subst}
use native.Mathlib.Omega.{arith}
use native.Mathlib.Nat.{zero-add, suc-add}
use native.Mathlib.Numerals.{add-one}
use lib.Ieee.{Float}
use Rattle.pose.specs.Pose.{unscaled_of}
use Rattle.pose.specs.declared.Pose.{Pose}
use Rattle.refusals.specs.declared.Refusal.{Refusal}
use Rattle.solve.specs.declared.Step.TheVariants.{Stop, Move}
use Rattle.runs.specs.Runs.{Run, going, stopped, refused, start, landed, next, after, outcome_of}
use Rattle.solve.specs.Solve.{Ended}

module _ (pass : Pose → Float → Ended) where
  -- where one more pass changes nothing, no number of them does
  stays : (r : Run) (n : ℕ) → next pass r ≡ r → after pass n ≡ r → (d : ℕ) → after pass (d + n) ≡ r
  unfolding after
  stays r n s e zero = rw zero-add e
  stays r n s e (suc d) = rw suc-add (ap (next pass) (stays r n s e d) ∙ s)

  ended : (r : Run) (n m : ℕ) → next pass r ≡ r → after pass n ≡ r → n ≤ m → after pass m ≡ r
  ended r n m s e h = let q : m - n + n ≡ m = omega arith in subst (λ (k : ℕ). after pass k ≡ r) q (stays r n s e (m - n))

  pub started : after pass 0 ≡ start
  unfolding after
  started = refl

  module _ (k : ℕ) (p : Pose) (rho last : Float) (e : after pass k ≡ going k p rho last) where
    -- where max_iter passes are done the pose stands
    pub passed : (sx sy : Float) (m : ℕ) → k ≡ m → outcome_of sx sy (after pass m) ≡ record { passes = k; answer = unscaled_of sx sy p rho }
    unfolding outcome_of
    passed sx sy m h = ap (λ (i : ℕ). outcome_of sx sy (after pass i)) (sym h) ∙ ap (outcome_of sx sy) e

    module _ (x : Ended) (f : x ≡ pass p last) where
      -- one pass from a run that goes on
      one_more : after pass (k + 1) ≡ landed k p x
      unfolding after next
      one_more = rw add-one (ap (next pass) e ∙ ap (landed k p) (sym f))

      pub moving : (q : Pose) (r : Float) → x ≡ Ok (Move q r) → after pass (k + 1) ≡ going (k + 1) q r r
      unfolding landed
      moving q r g = one_more ∙ ap (landed k p) g ∙ ap (λ (i : ℕ). going i q r r) (sym (add-one k))

      pub refusing : (sx sy : Float) (n : Refusal) (m : ℕ) → x ≡ Err n → k + 1 ≤ m → outcome_of sx sy (after pass m) ≡ record { passes = k + 1; answer = Err n }
      unfolding landed outcome_of next
      refusing sx sy n m g h = rw (ended (refused (suc k) n) (k + 1) m refl (one_more ∙ ap (landed k p) g) h) (ap (λ (i : ℕ). outcome_of sx sy (refused i n)) (sym (add-one k)))

      pub stopping : (sx sy : Float) (r : Float) (m : ℕ) → x ≡ Ok (Stop r) → k + 1 ≤ m → outcome_of sx sy (after pass m) ≡ record { passes = k + 1; answer = unscaled_of sx sy p r }
      unfolding landed outcome_of next
      stopping sx sy r m g h = rw (ended (stopped (suc k) p r) (k + 1) m refl (one_more ∙ ap (landed k p) g) h) (ap (λ (i : ℕ). outcome_of sx sy (stopped i p r)) (sym (add-one k)))
