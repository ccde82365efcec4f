-- How a call of `estimate` ends, by the check that refuses it or by the alignment's answer. Assumes nothing.
use Rattle.std.specs.Prelude.{Ok, Err, Option, Some, None}
use Prim.Native.Nat.{ℕ, ◌*◌, ◌≤◌}
use mathlib.Core.Path.{◌≡◌, refl, sym, ap, subst, ◌∙◌}
use mathlib.Core.Bool.{Bool, true, false, ◌&&◌, true≢false}
use mathlib.Core.List.{List, ◌++◌}
use native.Mathlib.Nat.{zero-add}
use native.Mathlib.Omega.{arith}
use borrow.Author.Tests.{le-ltb, eq-eqb, eqb-true}
use lib.Dec.{T, eqb, leb}
use lib.Ieee.{Float}
use lib.Ieee.Fits.{and_l, and_r}
use lib.ListN.{length, take, drop}
use lib.Seq.{length-take-le}
use Rattle.lists.specs.Lists.{tab, put}
use Rattle.lists.specs.Marked.{pick, words_for}
use Rattle.lists.proofs.Cases.{choose, either, pick_both}
use Rattle.lists.proofs.Every.{every}
use Rattle.lists.proofs.Fill.{front_is}
use Rattle.floats.specs.F32.{0f}
use Rattle.settings.specs.declared.EccConfig.{EccConfig}
use Rattle.checks.specs.Checks.{size_of, room_of, limits_of, check_of}
use Rattle.checks.proofs.Past.{past}
use Rattle.pose.specs.Pose.{Answer, number_of, told_of}
use Rattle.pose.specs.declared.Outcome.{Outcome}
use Rattle.alignment.specs.Aligned.{aligned_of, work_after, marks_after}
use Rattle.aligner.specs.Aligner.{entry_of, known_of, answer_of, estimate_of, store_after, begun_of, refused_of, known_by}
use Rattle.aligner.specs.declared.EccAligner.{EccAligner}
use Rattle.aligner.specs.declared.Reply.{Reply}
use Rattle.aligner.proofs.Numbers.{taken}
use Rattle.demands.specs.Finite.{ends_in, clears}
use Rattle.demands.proofs.Finite.{Late, FiveToTen, numbers, is_true, run_ends}
use Rattle.sequences.specs.Estimates.{CallMemory, frame, w, h, entering, Effect, untouched, kept, cleared, effect_of, is_taken, FrameKept, Did, EstimateEnded, EstimateEnds}
use Rattle.refusals.specs.Refusals.{number, refusal_of}
use Rattle.refusals.specs.declared.Refusal.{Refusal}
use Rattle.settings.specs.declared.Sides.{Sides}

-- ---- what the numbers tell

-- an answer of the table: whether its number clears, and its effect
abbrev Told : Bool → Bool → Effect → Answer → Type 0
Told fits c e a = T (ends_in 1 13 a) × (clears (number_of a) ≡ c) × (effect_of (number_of a) fits ≡ e)

-- a number with no pass, if it is one
abbrev Number : Bool → Effect → ℕ → Type 0
Number fits e n = eqb n 0 ≡ false → Told fits false e (Err (refusal_of n))

none : (fits : Bool) (e : Effect) → Number fits e 0
none fits e z = absurd (true≢false z)

one_by_length : (fits : Bool) → fits ≡ false → Number fits untouched 1
unfolding ends_in told_of clears effect_of pick refusal_of
one_by_length fits f z = (tt, refl, rw f refl)

two : (fits : Bool) → Number fits untouched 2
unfolding ends_in told_of clears effect_of pick refusal_of
two fits z = (tt, refl, refl)

thirteen : (fits : Bool) → Number fits untouched 13
unfolding ends_in told_of clears effect_of pick refusal_of
thirteen fits z = (tt, refl, refl)

-- the aligner's first checks change nothing
entry_told : (t w h s : ℕ) → Number (eqb t (w * h)) untouched (entry_of t w h s)
unfolding entry_of
entry_told t w h s =
    let f = eqb t (w * h) in
    let P = Number f untouched in
    pick_both P _ _ _ (two f) (pick_both P _ _ _ (two f) (either P _ _ _ (λ y. pick_both P _ _ _ (thirteen f) (none f untouched)) (λ n. one_by_length f n)))

eleven : (fits : Bool) → Number fits kept 11
unfolding ends_in told_of clears effect_of pick refusal_of
eleven fits z = (tt, refl, refl)

twelve : (fits : Bool) → Number fits kept 12
unfolding ends_in told_of clears effect_of pick refusal_of
twelve fits z = (tt, refl, refl)

-- no previous frame, or one of other sides: the frame is kept
told_by : (fits : Bool) (p : Option Sides) (w h : ℕ) → Number fits kept (known_by p w h)
unfolding known_by
told_by fits None w h = eleven fits
told_by fits (Some s) w h = let P = Number fits kept in pick_both P _ _ _ (pick_both P _ _ _ (none fits kept) (twelve fits)) (twelve fits)

known_told : (fits : Bool) (a : EccAligner) (w h : ℕ) → Number fits kept (known_of a w h)
unfolding known_of
known_told fits a w h = told_by fits a.prev w h

one : Number true kept 1
unfolding ends_in told_of clears effect_of pick refusal_of
one z = (tt, refl, refl)

three : Number true kept 3
unfolding ends_in told_of clears effect_of pick refusal_of
three z = (tt, refl, refl)

four : Number true kept 4
unfolding ends_in told_of clears effect_of pick refusal_of
four z = (tt, refl, refl)

-- the alignment's own checks, of sides that passed the aligner's: the frame is kept
check_told : (t i w h : ℕ) (cfg : EccConfig) (k m : ℕ) → w ≤ 4096 → h ≤ 4096 → Number true kept (check_of t i w h cfg k m)
unfolding check_of limits_of room_of
check_told t i w h cfg k m W H =
    either P _ _ _ (λ y. absurd (true≢false (sym y ∙ le-ltb _ _ W)))
    (λ n. either P _ _ _ (λ y. absurd (true≢false (sym y ∙ le-ltb _ _ H)))
    (λ n. pick_both P _ _ _ one (pick_both P _ _ _ one (pick_both P _ _ _ (pick_both P _ _ _ settings one) one))))
  where
    P : ℕ → Type 0
    P = Number true kept

    room : P (room_of cfg w h k m)
    room = pick_both P _ _ _ four (pick_both P _ _ _ four (none true kept))

    settings : P (limits_of cfg w h k m)
    settings = pick_both P _ _ _ one (pick_both P _ _ _ three (pick_both P _ _ _ three room))

-- what passes come to clears
abbrev is_cleared : Effect → Bool
is_cleared untouched = false
is_cleared kept = false
is_cleared cleared = true

cleared_is : (e : Effect) → T (is_cleared e) → e ≡ cleared
cleared_is untouched t = absurd t
cleared_is kept t = absurd t
cleared_is cleared t = refl

late_told : (fits : Bool) (a : Answer) → Late FiveToTen a → Told fits true cleared a
unfolding ends_in told_of clears effect_of pick every
late_told fits (Ok p) t = (t, refl, refl)
late_told fits (Err r) t =
    let n = number r in
    let told : ℕ → Bool = λ n. leb 1 n && leb n 13 in
    let b = numbers 5 6 (λ n. told n && (clears n && is_cleared (effect_of n fits))) tt n t.0 (omega (arith, t.1)) in
    let c = and_r (told n) (clears n && is_cleared (effect_of n fits)) b in (
      and_l (told n) (clears n && is_cleared (effect_of n fits)) b,
      is_true (clears n) (and_l (clears n) (is_cleared (effect_of n fits)) c),
      cleared_is (effect_of n fits) (and_r (clears n) (is_cleared (effect_of n fits)) c),
    )

-- ---- the memory

front_kept : (xs l : List ℕ) (n : ℕ) → length l ≡ n → put xs 0 l ≡ l ++ drop n xs
unfolding put
front_kept xs l n e = rw (e, zero-add)

module _ (x : CallMemory) (frame : List ℕ) (w h : ℕ) where
  abbrev t : ℕ
  t = length frame

  abbrev k : ℕ
  k = length x.work

  abbrev m : ℕ
  m = length x.marks

  abbrev n : ℕ
  n = size_of x.aligner.cfg w h

  abbrev fits : Bool
  fits = eqb t (w * h)

  -- the frame's own record
  abbrev named : EccAligner
  named = record { cfg = x.aligner.cfg; prev = Some (record { w = w; h = h }) }

  abbrev taken_as : List Float → List ℕ → CallMemory
  taken_as work marks = record { aligner = named; store = put x.store 0 frame; work = work; marks = marks }

  is_kept : entry_of t w h (length x.store) ≡ 0 → (work : List Float) (marks : List ℕ) → FrameKept frame w h x (taken_as work marks)
  is_kept e work marks =
      let p = taken t w h (length x.store) e in
      record { record_is = refl; sized = p.2; room = p.3; store_is = front_kept x.store frame (w * h) p.2 }

  -- refused before any pass
  refused_ends : (r : Refusal) (e : Effect) (y : CallMemory) → Told fits false e (Err r) → Did e frame w h x y → EstimateEnded frame w h (record { passes = 0; answer = Err r }) x y
  refused_ends r e y l d = record { answer = l.0; few = omega arith; no_pass = λ c. refl; did = subst (λ (z : Effect). Did z frame w h x y) (sym l.2) d }

  -- past all checks
  begun_ends : (o : Outcome) → entry_of t w h (length x.store) ≡ 0 → check_of (w * h) t w h x.aligner.cfg k m ≡ 0 → o.passes ≤ x.aligner.cfg.max_iter → Late FiveToTen o.answer →
      EstimateEnded frame w h o x (taken_as (put x.work 0 (tab (12 * n) (λ _. 0f))) (put x.marks 0 (tab (words_for n) (λ _. 0))))
  begun_ends o e c few late =
      let l = late_told fits o.answer late in
      let p = past (w * h) t w h x.aligner.cfg k m c in
      let y = taken_as (put x.work 0 (tab (12 * n) (λ _. 0f))) (put x.marks 0 (tab (words_for n) (λ _. 0))) in
      record {
        answer = l.0;
        few = few;
        no_pass = λ z. absurd (true≢false (sym l.1 ∙ z));
        did = subst (λ (z : Effect). Did z frame w h x y) (sym l.2)
            (is_kept e _ _, (p.work_fits, front_is x.work (12 * n) 0f), (p.marks_fit, front_is x.marks (words_for n) 0));
      }

  -- THE THEOREM, of the definitions that the contract of `estimate` cites
  abbrev decides : ℕ
  decides = refused_of x.aligner t w h (length x.store) k m

  abbrev reply : Reply
  reply = estimate_of x.aligner frame w h x.store k m

  definitions_end : EstimateEnded frame w h reply.outcome x
      (record { aligner = reply.aligner; store = store_after frame w h x.store; work = work_after decides n x.work; marks = marks_after decides n x.marks })
  unfolding estimate_of answer_of aligned_of store_after work_after marks_after refused_of begun_of pick
  definitions_end =
      choose (eqb (entry_of t w h (length x.store)) 0)
      (λ yes.
      let e = eqb-true _ 0 yes in
      let p = taken t w h (length x.store) e in
      let full : length (take (w * h) x.store) ≡ w * h = length-take-le (w * h) x.store p.3 in
      choose (eqb (known_of x.aligner w h) 0)
      (λ same. choose (eqb (check_of (w * h) t w h x.aligner.cfg k m) 0)
      (λ past. let r = run_ends (take (w * h) x.store) frame w h x.aligner.cfg _ _ in rw (yes, same, full, past) (begun_ends _ e (eqb-true _ 0 past) r.0 r.1))
      (λ no. rw (yes, same, full, no) (refused_ends _ kept _ (rw (eq-eqb t (w * h) p.2) (check_told (w * h) t w h x.aligner.cfg k m p.0 p.1 no)) (is_kept e _ _, refl, refl))))
      (λ no. rw (yes, no, no) (refused_ends _ kept _ (known_told fits x.aligner w h no) (is_kept e _ _, refl, refl))))
      (λ no. rw (no, no) (refused_ends _ untouched x (entry_told t w h (length x.store) no) refl))

  -- whether the frame is taken is told by the effect
  pub effect_told : is_taken (effect_of (number_of reply.outcome.answer) fits) ≡ eqb (entry_of t w h (length x.store)) 0
  unfolding estimate_of answer_of aligned_of pick
  effect_told =
      choose (eqb (entry_of t w h (length x.store)) 0)
      (λ yes.
      let p = taken t w h (length x.store) (eqb-true _ 0 yes) in
      let full : length (take (w * h) x.store) ≡ w * h = length-take-le (w * h) x.store p.3 in
      choose (eqb (known_of x.aligner w h) 0)
      (λ same. choose (eqb (check_of (w * h) t w h x.aligner.cfg k m) 0)
      (λ past. rw (yes, same, full, past) (ap is_taken (late_told fits _ (run_ends (take (w * h) x.store) frame w h x.aligner.cfg _ _).1).2))
      (λ no. rw (yes, same, full, no, eq-eqb t (w * h) p.2) (ap is_taken (check_told (w * h) t w h x.aligner.cfg k m p.0 p.1 no).2)))
      (λ no. rw (yes, no) (ap is_taken (known_told fits x.aligner w h no).2)))
      (λ no. rw no (ap is_taken (entry_told t w h (length x.store) no).2))

-- what holds of the definitions holds of what equals them
as_defined : {frame : List ℕ} {w h : ℕ} {x : CallMemory} {r r' : Reply} {store store' : List ℕ} {work work' : List Float} {marks marks' : List ℕ} → r ≡ r' → store ≡ store' → work ≡ work' → marks ≡ marks' →
    EstimateEnded frame w h r'.outcome x (record { aligner = r'.aligner; store = store'; work = work'; marks = marks' }) →
    EstimateEnded frame w h r.outcome x (record { aligner = r.aligner; store = store; work = work; marks = marks })
as_defined d e f g l = rw (d, e, f, g) l

pub estimate_ends : EstimateEnds
unfolding EstimateEnds
estimate_ends c = as_defined c.admitted.0 c.admitted.1.0 c.admitted.1.1.0 c.admitted.1.1.1 (definitions_end (entering c) (frame c) (w c) (h c))
