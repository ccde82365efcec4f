-- Demand 1, for any input: past the checks an answer is a pose of four finite numbers, theta in -2..2, or a refusal from 5 to 10, after max_iter
-- passes at the most; before them it is a refusal from 1 to 4 with no pass. So the answer's number says whether work and marks were cleared.
-- Assumes nothing.
use Rattle.std.specs.Prelude.{Ok, Err}
use Prim.Native.Nat.{ℕ, zero, suc, ◌+◌, ◌-◌, ◌*◌, ◌≤◌, ◌<◌}
use mathlib.Core.Path.{◌≡◌, refl, sym, ap, subst, ◌∙◌}
use mathlib.Core.Bool.{Bool, true, false, not, ◌&&◌, ◌||◌}
use mathlib.Core.List.{List}
use mathlib.Core.Logic.{◌⊎◌, inl, inr}
use native.Mathlib.Nat.{eq-or-lt_of_le}
use native.Mathlib.Omega.{arith}
use borrow.Author.Tests.{lt-ltb, eq-eqb, eqb-true, eqb-false}
use lib.Dec.{T, ltb, leb, eqb, lit≤}
use lib.Ieee.{Float, nan, inf, fin, up, down, neg, le, of_bits}
use lib.Ieee.Fits.{and_l, and_r, down_pos}
use lib.Ieee.Scale.{finite}
use lib.ListN.{length}
use Rattle.lists.specs.Marked.{pick}
use Rattle.lists.proofs.Cases.{choose, pick_where, pick_both, pick_true, pick_false}
use Rattle.lists.proofs.Every.{every, every_at}
use Rattle.lists.proofs.Fill.{front_is}
use Rattle.floats.specs.Bound.{Within}
use Rattle.floats.specs.F32.{0f, 2f}
use Rattle.settings.specs.declared.EccConfig.{EccConfig}
use Rattle.prepare.specs.Prepared.{prepared_of}
use Rattle.checks.specs.Checks.{size_of, room_of, limits_of, check_of}
use Rattle.checks.proofs.Past.{past}
use Rattle.refusals.specs.Refusals.{number, refusal_of}
use Rattle.pose.specs.Pose.{Answer, number_of, unscaled_of, told_of}
use Rattle.pose.specs.declared.Pose.{Pose}
use Rattle.pose.specs.declared.Outcome.{Outcome}
use Rattle.solve.specs.Solve.{Ended}
use Rattle.solve.specs.declared.Step.TheVariants.{Stop, Move}
use Rattle.pass.specs.Pass.{stats_at}
use Rattle.runs.specs.Runs.{Run, going, stopped, refused, start, landed, next, after, outcome_of}
use Rattle.runs.proofs.Moves.{Sound, Refusals, SevenOrFinite, pass_sound}
use Rattle.alignment.specs.Aligned.{pass_in, run_of, aligned_of, work_after, marks_after}
use Rattle.demands.specs.Finite.{ends_in, clears, CallEnded}

-- ---- the passes

-- a number of bounded size is finite
within_finite : (x : Float) (a c : ℕ) → Within x a c → finite x ≡ true
within_finite nan a c w = absurd w
within_finite (inf s) a c w = absurd w
within_finite (fin s m e) a c w = refl

-- after at most m passes: theta from -2 to 2 and a finite correlation, or a refusal with one of the numbers N
module _ (N : ℕ → Type 0) where
  abbrev SoundRun : ℕ → Run → Type 0
  SoundRun m (going k p rho last) = (k ≤ m) × Within p.theta 2 1 × (finite rho ≡ true)
  SoundRun m (stopped k p rho) = (k ≤ m) × Within p.theta 2 1 × (finite rho ≡ true)
  SoundRun m (refused k r) = (k ≤ m) × N (number r)

  module _ (pass : Pose → Float → Ended) (sound : (p : Pose) (last : Float) → Sound N (pass p last)) where
    landed_sound : (m k : ℕ) (p : Pose) → k ≤ m → Within p.theta 2 1 → (x : Ended) → Sound N x → SoundRun (suc m) (landed k p x)
    unfolding landed Sound
    landed_sound m k p h t (Err r) s = (omega (arith, h), s)
    landed_sound m k p h t (Ok (Stop rho)) s = (omega (arith, h), t, s)
    landed_sound m k p h t (Ok (Move q rho)) s = (omega (arith, h), s.0, s.1)

    next_sound : (m : ℕ) (r : Run) → SoundRun m r → SoundRun (suc m) (next pass r)
    unfolding next
    next_sound m (going k p rho last) s = landed_sound m k p s.0 s.1 (pass p last) (sound p last)
    next_sound m (stopped k p rho) s = (omega (arith, s.0), s.1, s.2)
    next_sound m (refused k n) s = (omega (arith, s.0), s.1)

    after_sound : (m : ℕ) → SoundRun m (after pass m)
    unfolding after start neg of_bits
    after_sound zero = (lit≤ tt, lit≤ tt, refl)
    after_sound (suc m) = next_sound m (after pass m) (after_sound m)

-- ---- the answer

or_true : (b : Bool) → (b || true) ≡ true
or_true true = refl
or_true false = refl

-- a ≤ b, as the comparison of two floats has it: less, or equal with like signs
at_most : (a b : ℕ) (same : Bool) → a ≤ b → (a ≡ b → same ≡ true) → (ltb a b || (same && true)) ≡ true
at_most a b same h f = by (eq-or-lt_of_le h)
  where
    by : (a ≡ b) ⊎ (a < b) → (ltb a b || (same && true)) ≡ true
    by (inl e) = rw (f e) (or_true (ltb a b))
    by (inr l) = rw (lt-ltb a b l) refl

-- a size of at most 2 is in -2..2
turn_in : (x : Float) → Within x 2 1 → (le (neg 2f) x ≡ true) × (le x 2f ≡ true)
unfolding le neg of_bits
turn_in nan w = absurd w
turn_in (inf s) w = absurd w
turn_in (fin false m e) w =
    let d = down_pos e in
    (rw (lt-ltb 0 (2 * down e + m * up e * 1) (omega (arith, d))) refl, at_most (m * up e * 1) (2 * down e) _ (omega (arith, w)) (eq-eqb _ _))
turn_in (fin true m e) w =
    let d = down_pos e in
    (at_most (m * up e * 1) (2 * down e) _ (omega (arith, w)) (λ q. eq-eqb _ _ (sym q)), rw (lt-ltb 0 (m * up e * 1 + 2 * down e) (omega (arith, d))) refl)

-- what passes come to: a pose as demand 1 asks, or a refusal with one of the numbers N
module _ (N : ℕ → Type 0) where
  abbrev pub Late : Answer → Type 0
  Late (Ok p) = T (ends_in 1 10 (Ok p))
  Late (Err r) = N (number r)

  abbrev pub Ends : ℕ → Outcome → Type 0
  Ends m o = (o.passes ≤ m) × Late o.answer

  posed_late : (sx sy : Float) (p : Pose) (rho : Float) → N 10 → Within p.theta 2 1 → finite rho ≡ true → Late (unscaled_of sx sy p rho)
  unfolding unscaled_of ends_in
  posed_late sx sy p rho ten t r =
      let f = within_finite p.theta 2 1 t in
      let i = turn_in p.theta t in
      pick_where Late _ _ _ (λ x. pick_where Late _ _ _ (λ y. rw (f, x, y, r, i.0, i.1) tt) ten) ten

  outcome_ends : (sx sy : Float) (m : ℕ) (r : Run) → N 10 → SoundRun N m r → Ends m (outcome_of sx sy r)
  unfolding outcome_of
  outcome_ends sx sy m (going k p rho last) ten s = (s.0, posed_late sx sy p rho ten s.1 s.2)
  outcome_ends sx sy m (stopped k p rho) ten s = (s.0, posed_late sx sy p rho ten s.1 s.2)
  outcome_ends sx sy m (refused k n) ten s = s

-- the numbers of passes
abbrev pub FiveToTen : ℕ → Type 0
FiveToTen n = (5 ≤ n) × (n ≤ 10)

five_to_ten : Refusals FiveToTen
five_to_ten = record { five = (lit≤ tt, lit≤ tt); six = (lit≤ tt, lit≤ tt); eight = (lit≤ tt, lit≤ tt); nine = (lit≤ tt, lit≤ tt); ten = (lit≤ tt, lit≤ tt) }

-- ---- the checks have the numbers 1 to 4
abbrev Early : ℕ → Type 0
Early n = n ≤ 4

pub check_ends : (t i w h : ℕ) (cfg : EccConfig) (k m : ℕ) → check_of t i w h cfg k m ≤ 4
unfolding check_of limits_of room_of
check_ends t i w h cfg k m =
    pick_both Early _ _ _ (lit≤ tt)
    (pick_both Early _ _ _ (lit≤ tt)
    (pick_both Early _ _ _ (lit≤ tt)
    (pick_both Early _ _ _ (lit≤ tt) (pick_both Early _ _ _ (pick_both Early _ _ _ settings (lit≤ tt)) (lit≤ tt)))))
  where
    room : Early (room_of cfg w h k m)
    room = pick_both Early _ _ _ (lit≤ tt) (pick_both Early _ _ _ (lit≤ tt) (lit≤ tt))

    settings : Early (limits_of cfg w h k m)
    settings = pick_both Early _ _ _ (lit≤ tt) (pick_both Early _ _ _ (lit≤ tt) (pick_both Early _ _ _ (lit≤ tt) room))

-- ---- the numbers, each tried

-- a test of the k numbers from a on
pub numbers : (a k : ℕ) (p : ℕ → Bool) → T (every k (λ i. p (a + i))) → (n : ℕ) → a ≤ n → n < a + k → T (p n)
numbers a k p t n l h =
    let e : a + (n - a) ≡ n = omega arith in
    subst (λ (z : ℕ). T (p z)) e (every_at k (λ i. p (a + i)) (n - a) t (omega arith))

pub is_true : (b : Bool) → T b → b ≡ true
is_true true t = refl
is_true false t = absurd t

is_false : (b : Bool) → T (not b) → b ≡ false
is_false true t = absurd t
is_false false t = refl

-- 5 to 10 are of the table, and clear
late : (a : Answer) → Late FiveToTen a → T (ends_in 1 10 a) × (clears (number_of a) ≡ true)
unfolding ends_in told_of clears every
late (Ok p) t = (t, refl)
late (Err r) t =
    let n = number r in
    let told : ℕ → Bool = λ n. leb 1 n && leb n 10 in
    let b = numbers 5 6 (λ n. told n && clears n) tt n t.0 (omega (arith, t.1)) in
    (and_l (told n) (clears n) b, is_true (clears n) (and_r (told n) (clears n) b))

-- 1 to 4 are of the table, and do not
early : (n : ℕ) → n ≤ 4 → eqb n 0 ≡ false → T (ends_in 1 10 (Err (refusal_of n))) × (clears (number (refusal_of n)) ≡ false)
unfolding ends_in clears every refusal_of pick
early n h e =
    let some = eqb-false n 0 e in
    let told : ℕ → Bool = λ n. ends_in 1 10 (Err (refusal_of n)) in
    let stays : ℕ → Bool = λ n. clears (number (refusal_of n)) in
    let b = numbers 1 4 (λ n. told n && not (stays n)) tt n (omega (arith, some)) (omega (arith, h)) in
    (and_l (told n) (not (stays n)) b, is_false (stays n) (and_r (told n) (not (stays n)) b))

-- ---- the call

module _ (template input : List ℕ) (w h : ℕ) (cfg : EccConfig) where
  -- past the checks, with any numbers N
  pub run_among : (N : ℕ → Type 0) → Refusals N → (tw th : ℕ) → ((p : Pose) → let k = cfg.gauss_filt_size in SevenOrFinite N (stats_at (prepared_of template w h tw th k) (prepared_of input w h tw th k) tw th p)) →
      Ends N cfg.max_iter (run_of template input w h tw th cfg)
  unfolding run_of pass_in
  run_among N among tw th seven =
      outcome_ends N _ _ _ _ among.ten (after_sound N (pass_in template input w h tw th cfg) (λ p last. pass_sound N among tw th cfg.eps p last _ _ _ _ (seven p)) cfg.max_iter)

  pub run_ends : (tw th : ℕ) → Ends FiveToTen cfg.max_iter (run_of template input w h tw th cfg)
  run_ends tw th = run_among FiveToTen five_to_ten tw th (λ p. inl (lit≤ tt, lit≤ tt))

  module _ (k m : ℕ) where
    abbrev check : ℕ
    check = check_of (length template) (length input) w h cfg k m

    -- the answer, and that its number tells whether the checks were passed
    pub call_ends : let a = (aligned_of template input w h cfg k m).answer in T (ends_in 1 10 a) × (clears (number_of a) ≡ eqb check 0)
    unfolding aligned_of told_of pick
    call_ends =
        choose (eqb check 0)
        (λ yes. rw yes (late _ (run_ends _ _).1))
        (λ no. rw no (early check (check_ends _ _ w h cfg k m) no))

  -- THE THEOREM, of the definitions that the alignment's contract cites
  pub memory_ends : (work : List Float) (marks : List ℕ) → (let n = size_of cfg w h in let c = check (length work) (length marks) in
      CallEnded n cfg.max_iter (aligned_of template input w h cfg (length work) (length marks)) work (work_after c n work) marks (marks_after c n marks))
  unfolding aligned_of work_after marks_after
  memory_ends work marks =
      let ends = call_ends (length work) (length marks) in
      record {
        answer = ends.0;
        few = pick_where (λ (o : Outcome). o.passes ≤ cfg.max_iter) _ _ _ (λ e. (run_ends _ _).0) (omega arith);
        no_pass = λ c. ap (λ (o : Outcome). o.passes) (pick_false _ _ _ (sym ends.1 ∙ c));
        cleared = λ c.
            let yes = sym ends.1 ∙ c in
            let p = past _ _ w h cfg (length work) (length marks) (eqb-true _ 0 yes) in
            ((p.work_fits, pick_true _ _ _ yes ∙ front_is work _ 0f), (p.marks_fit, pick_true _ _ _ yes ∙ front_is marks _ 0));
        stays = λ c. let no = sym ends.1 ∙ c in (pick_false _ _ _ no, pick_false _ _ _ no);
      }
