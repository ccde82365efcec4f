-- No call of the alignment and none of the aligner is answered with 7, nor with any other number that neither the checks give nor the passes where rho is finite.
-- Assumes nothing.
use Rattle.std.specs.Prelude.{Ok, Err, Option, Some, None}
use Prim.Native.Nat.{ℕ, ◌*◌}
use mathlib.Core.Path.{◌≡◌, sym, ap, subst}
use mathlib.Core.Bool.{Bool, true, false, not, ◌&&◌, ◌||◌}
use mathlib.Core.List.{List}
use mathlib.Core.Logic.{inr}
use native.Mathlib.Omega.{arith}
use borrow.Author.Tests.{eqb-true}
use lib.Dec.{T, leb}
use lib.ListN.{length, take}
use Rattle.lists.specs.Premises.{AreBytes}
use Rattle.lists.proofs.Bytes.{bytes_take}
use Rattle.lists.proofs.Cases.{either, pick_both}
use Rattle.lists.proofs.Every.{every}
use Rattle.settings.specs.Settings.{edge_of}
use Rattle.settings.specs.Sides.{resized_of}
use Rattle.settings.specs.declared.EccConfig.{EccConfig}
use Rattle.settings.proofs.Resizing.{resized_range}
use Rattle.checks.specs.Checks.{check_of}
use Rattle.checks.proofs.Past.{past}
use Rattle.pose.specs.Pose.{Answer, number_of, told_of}
use Rattle.pose.specs.declared.Outcome.{Outcome}
use Rattle.runs.proofs.Moves.{Refusals}
use Rattle.alignment.specs.Aligned.{aligned_of}
use Rattle.aligner.specs.Aligner.{entry_of, known_of, answer_of, estimate_of, known_by}
use Rattle.aligner.specs.declared.EccAligner.{EccAligner}
use Rattle.aligner.specs.declared.Reply.{Reply}
use Rattle.demands.proofs.Finite.{Late, numbers, run_among, check_ends}
use Rattle.seven.specs.Calls.{AlignmentNeverSeven, EstimateNeverSeven}
use Rattle.seven.proofs.Passes.{frames_never}
use Rattle.refusals.specs.Refusals.{number, refusal_of}
use Rattle.lists.specs.Marked.{pick}
use Rattle.refusals.specs.declared.Refusal.{Refusal}
use Rattle.settings.specs.declared.Sides.{Sides}

-- the numbers that the checks and the passes give where rho is finite
abbrev pub given : ℕ → Bool
given n = leb n 6 || (leb 8 n && leb n 13)

not_both : (b : Bool) → T b → T (not b) → ⊥
not_both true t f = f
not_both false t f = t

-- an outcome with another number than k
abbrev pub NotNumber : ℕ → Outcome → Type 0
NotNumber k o = number_of o.answer ≡ k → ⊥

-- k is none of them
module _ (k : ℕ) (free : T (not (given k))) where
  abbrev pub Other : ℕ → Type 0
  Other n = n ≡ k → ⊥

  pub other : (n : ℕ) → T (given n) → Other n
  other n t e = not_both (given k) (subst (λ (z : ℕ). T (given z)) e t) free

  others : Refusals Other
  others = record { five = other 5 tt; six = other 6 tt; eight = other 8 tt; nine = other 9 tt; ten = other 10 tt }

  late_other : (a : Answer) → Late Other a → Other (number_of a)
  unfolding told_of
  late_other (Ok p) t = other 0 tt
  late_other (Err r) t = t

  -- a refusal before any pass, by the number that its check gives
  abbrev pub Refuses : ℕ → Type 0
  Refuses n = Other (number (refusal_of n))

  pub refused_other : (n : ℕ) → Refuses n → NotNumber k (record { passes = 0; answer = Err (refusal_of n) })
  unfolding told_of
  refused_other n o = o

  -- any refusal with one of those numbers
  pub refused_as : (r : Refusal) → T (given (number r)) → NotNumber k (record { passes = 0; answer = Err r })
  unfolding told_of
  refused_as r t = other (number r) t

  -- ---- the alignment

  check_other : (t i w h : ℕ) (cfg : EccConfig) (work marks : ℕ) → Refuses (check_of t i w h cfg work marks)
  unfolding every refusal_of pick
  check_other t i w h cfg work marks = other _ (numbers 0 5 (λ n. given (number (refusal_of n))) tt (check_of t i w h cfg work marks) (omega arith) (omega (arith, check_ends t i w h cfg work marks)))

  pub aligned_other : (template input : List ℕ) → AreBytes template → AreBytes input → (w h : ℕ) (cfg : EccConfig) (work marks : ℕ) → NotNumber k (aligned_of template input w h cfg work marks)
  unfolding aligned_of
  aligned_other template input bt bi w h cfg work marks =
      either (NotNumber k) _ _ _
      (λ yes.
      let q = past (length template) (length input) w h cfg work marks (eqb-true _ 0 yes) in
      let s = resized_of (edge_of cfg) w h in
      let r = resized_range (edge_of cfg) w h q.sides in
      late_other _
      (run_among template input w h cfg Other others s.w s.h (λ p. inr (frames_never template input w h s.w s.h cfg.gauss_filt_size p q.sides r q.filter q.template_fits q.input_fits bt bi))).1)
      (λ no. refused_other _ (check_other (length template) (length input) w h cfg work marks))

  -- ---- the aligner

  none : Refuses 0
  unfolding refusal_of pick
  none = other 13 tt

  one : Refuses 1
  unfolding refusal_of pick
  one = other 1 tt

  two : Refuses 2
  unfolding refusal_of pick
  two = other 2 tt

  eleven : Refuses 11
  unfolding refusal_of pick
  eleven = other 11 tt

  twelve : Refuses 12
  unfolding refusal_of pick
  twelve = other 12 tt

  thirteen : Refuses 13
  unfolding refusal_of pick
  thirteen = other 13 tt

  entry_other : (t w h s : ℕ) → Refuses (entry_of t w h s)
  unfolding entry_of
  entry_other t w h s = pick_both Refuses _ _ _ two (pick_both Refuses _ _ _ two (pick_both Refuses _ _ _ (pick_both Refuses _ _ _ thirteen none) one))

  known_by_other : (p : Option Sides) (w h : ℕ) → Refuses (known_by p w h)
  unfolding known_by
  known_by_other None w h = eleven
  known_by_other (Some s) w h = pick_both Refuses _ _ _ (pick_both Refuses _ _ _ none twelve) twelve

  known_other : (a : EccAligner) (w h : ℕ) → Refuses (known_of a w h)
  unfolding known_of
  known_other a w h = known_by_other a.prev w h

  pub estimated_other : (a : EccAligner) (frame : List ℕ) (w h : ℕ) (store : List ℕ) (work marks : ℕ) → AreBytes frame → AreBytes store → NotNumber k (estimate_of a frame w h store work marks).outcome
  unfolding estimate_of answer_of
  estimated_other a frame w h store work marks bf bs =
      pick_both (λ (r : Reply). NotNumber k r.outcome) _ _ _
      (pick_both (NotNumber k) _ _ _ (aligned_other (take (w * h) store) frame (bytes_take (w * h) store bs) bf w h a.cfg work marks) (refused_other _ (known_other a w h)))
      (refused_other _ (entry_other (length frame) w h (length store)))

-- ---- as the contracts admit them

pub alignment_never : AlignmentNeverSeven
alignment_never c bt bi = subst (NotNumber _) (sym c.admitted.0) (aligned_other _ tt _ _ bt bi _ _ _ _ _)

pub estimate_never : EstimateNeverSeven
estimate_never c bf bs = subst (NotNumber _) (ap (λ (r : Reply). r.outcome) (sym c.admitted.0)) (estimated_other _ tt _ _ _ _ _ _ _ bf bs)
