-- A code gives its number and its pass count back, and goes into 32 bits: a call's number is at most 13, and its passes are at most 1,000. Assumes nothing.
use Rattle.std.specs.Prelude.{Ok, Err}
use Prim.Native.Nat.{ℕ, ◌≤◌}
use mathlib.Core.Path.{◌≡◌, ap, ◌∙◌}
use mathlib.Core.List.{List}
use native.Mathlib.Nat.{le_trans}
use native.Mathlib.Omega.{arith}
use borrow.Author.Tests.{eqb-true}
use lib.Dec.{T, leb, lit≤, leb→le}
use lib.Ieee.{Float}
use lib.Ieee.Fits.{and_r}
use lib.ListN.{length}
use Rattle.lists.proofs.Cases.{pick_where, pick_both}
use Rattle.settings.specs.declared.EccConfig.{EccConfig}
use Rattle.checks.proofs.Past.{past}
use Rattle.pose.specs.Pose.{Answer, number_of, told_of}
use Rattle.refusals.specs.Refusals.{number, refusal_of}
use Rattle.refusals.proofs.Numbered.{number_most}
use Rattle.pose.specs.declared.Outcome.{Outcome}
use Rattle.alignment.specs.Aligned.{aligned_of}
use Rattle.demands.specs.Finite.{ends_in}
use Rattle.demands.proofs.Finite.{run_ends, call_ends}
use Rattle.aligner.specs.Aligner.{entry_of, known_of, answer_of, estimate_of}
use Rattle.aligner.specs.declared.EccAligner.{EccAligner}
use Rattle.aligner.specs.declared.Reply.{Reply}
use Rattle.boundary.specs.Boundary.{fronted, code_of, pose_of}
use Rattle.quayhollow.specs.Told.{CodeTold, Small, OutcomesSmall}

pub code_told : CodeTold
unfolding code_of
code_told o h = (omega arith, omega arith)

-- what a call hands on of its outcome: the code, and the pose at the front of a slice
pub handed_on : {o o' : Outcome} {n : ℕ} (xs : List Float) {ys : List Float} → o ≡ o' → n ≡ code_of o → ys ≡ fronted (pose_of o.answer) xs → (n ≡ code_of o') × (ys ≡ fronted (pose_of o'.answer) xs)
handed_on xs e c p = (c ∙ ap code_of e, p ∙ ap (λ (o : Outcome). fronted (pose_of o.answer) xs) e)

low : (a : Answer) → T (ends_in 1 10 a) → number_of a ≤ 13
unfolding ends_in told_of
low (Ok p) t = lit≤ tt
low (Err r) t = le_trans (leb→le (number r) 10 (and_r (leb 1 (number r)) (leb (number r) 10) t)) (lit≤ tt)

refused : (n : ℕ) → Small (record { passes = 0; answer = Err (refusal_of n) })
unfolding told_of
refused n = (number_most n, lit≤ tt)

pub aligned_small : (template input : List ℕ) (w h : ℕ) (cfg : EccConfig) (k m : ℕ) → Small (aligned_of template input w h cfg k m)
unfolding aligned_of
aligned_small template input w h cfg k m = (
  low _ (call_ends template input w h cfg k m).0,
  pick_where (λ (o : Outcome). o.passes ≤ 1000) _ _ _
      (λ e. le_trans (run_ends template input w h cfg _ _).0 (past _ _ _ _ _ _ _ (eqb-true _ _ e)).passes_most) (lit≤ tt),
)

pub estimate_small : (a : EccAligner) (frame : List ℕ) (w h : ℕ) (store : List ℕ) (k m : ℕ) → Small (estimate_of a frame w h store k m).outcome
unfolding estimate_of answer_of
estimate_small a frame w h store k m =
    pick_both (λ (r : Reply). Small r.outcome) _ _ _
    (pick_both Small _ _ _ (aligned_small _ _ _ _ _ _ _) (refused _))
    (refused _)

pub outcomes_small : OutcomesSmall
outcomes_small = record { aligned = aligned_small; estimated = estimate_small }
