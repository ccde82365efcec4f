-- The first pass over a flat template ends the call. Assumes nothing.
use Rattle.std.specs.Prelude.{Result, Err}
use Prim.Native.Nat.{ℕ, zero, suc, ◌*◌, ◌^◌, ◌≤◌, ◌<◌}
use mathlib.Core.Path.{◌≡◌, refl, sym, ap, subst, ◌∙◌}
use mathlib.Core.Bool.{Bool, true, false}
use mathlib.Core.List.{List}
use mathlib.Core.Logic.{◌⊎◌, inl, inr}
use native.Mathlib.Nat.{mul-le-mul, le_trans}
use native.Mathlib.Omega.{arith}
use borrow.Author.Tests.{eq-eqb, ltb-false}
use lib.Dec.{ltb, eqb, lit≤}
use lib.ListN.{length, get_or}
use lib.Ieee.{Float, nan, neg, le, of_int, of_bits}
use Rattle.lists.specs.Lists.{tab}
use Rattle.lists.specs.Marked.{pick}
use Rattle.lists.proofs.Cases.{choose, pick_true, pick_false}
use Rattle.lists.proofs.Grow.{get_d_tab}
use Rattle.floats.specs.F32.{◌⊘◌, f32, 0f, 1f}
use Rattle.settings.specs.Settings.{edge_of}
use Rattle.settings.specs.Sides.{resized_of}
use Rattle.settings.specs.declared.EccConfig.{EccConfig}
use Rattle.settings.specs.declared.Sides.{Sides}
use Rattle.prepare.specs.Prepared.{gray_of, prepared_of}
use Rattle.prepare.proofs.Frames.{scaled_same, prepared_one}
use Rattle.checks.specs.Checks.{check_of}
use Rattle.checks.proofs.Past.{past}
use Rattle.marks.specs.Marks.{count_on}
use Rattle.root.specs.Root.{sqrt_of}
use Rattle.places.specs.Point.{marks_of}
use Rattle.stats.specs.Stats.{centred_of, product_of, stats_of}
use Rattle.verdict.specs.Verdict.{tiny, verdict_of}
use Rattle.verdict.specs.declared.Verdict.{Verdict}
use Rattle.pose.specs.Pose.{affine_from_theta_tx_ty}
use Rattle.pose.specs.declared.Pose.{Pose}
use Rattle.pose.specs.declared.Outcome.{Outcome}
use Rattle.solve.specs.Solve.{Ended}
use Rattle.pass.specs.Pass.{onward, weighed_of, pass_of}
use Rattle.runs.specs.Runs.{Run, refused, start, landed, next, after, outcome_of}
use Rattle.alignment.specs.Aligned.{pass_in, run_of, aligned_of}
use Rattle.demands.specs.Agree.{Plain}
use Rattle.demands.specs.Calls.{template, input, w, h, cfg, work, marks}
use Rattle.flat.specs.Flat.{RefusedAtOnce, FlatIsRefused}
use Rattle.flat.proofs.Sums.{squares_flat}
use Rattle.refusals.specs.declared.Refusal.{Refusal}
use Rattle.refusals.specs.declared.Refusal.TheVariants.{FewPixels, Flat}

-- ---- the pass

-- the root of 0 is at most 1e-6
none_is_flat : le (sqrt_of (f32 0)) tiny ≡ true
unfolding sqrt_of le of_int of_bits
none_is_flat = refl

bad_refuses : (x : Result Verdict Refusal) (update : Float → Ended) → x ≡ Err Flat → onward x update ≡ Err Flat
unfolding onward
bad_refuses x update e = ap (λ (z : Result Verdict Refusal). onward z update) e

module _ (xs : List Float) (w h v : ℕ) (eps : Float) (flat : (i : ℕ) → i < w * h → get_or xs i nan ≡ f32 v) (few : w * h ≤ 2 ^ 24) (least : w * h * v ≤ 2 ^ 24) where
  weighed : (ms : List ℕ) (ys gx gy : List Float) (p : Pose) (last : Float) → 16 ≤ count_on ms (w * h) → weighed_of ms xs ys gx gy w h eps p last ≡ Err Flat
  unfolding weighed_of verdict_of stats_of
  weighed ms ys gx gy p last many =
      bad_refuses _ _ (pick_true _ _ _ (ap (λ (x : Float). le (sqrt_of x) tiny) (squares_flat ms (w * h) v xs flat (omega arith) few least) ∙ none_is_flat))

  -- under 16 are marked, or the template is flat
  at_once : (ys gx gy : List Float) (p : Pose) (last : Float) → (pass_of xs ys gx gy w h eps p last ≡ Err FewPixels) ⊎ (pass_of xs ys gx gy w h eps p last ≡ Err Flat)
  unfolding pass_of
  at_once ys gx gy p last =
      let ms = marks_of (affine_from_theta_tx_ty p) w h in
      choose (ltb (count_on ms (w * h)) 16) (λ e. inl (pick_true _ _ _ e)) (λ e. inr (pick_false _ _ _ e ∙ weighed ms _ _ _ p last (ltb-false _ _ e)))

-- ---- the passes

module _ (pass : Pose → Float → Ended) where
  -- a first pass that refuses is the last
  first_is_last : (r : Refusal) (k : ℕ) → pass (record { theta = 0f; tx = 0f; ty = 0f }) (neg 1f ⊘ 0f) ≡ Err r → after pass (suc k) ≡ refused 1 r
  unfolding after start next landed
  first_is_last r zero e = ap (landed 0 (record { theta = 0f; tx = 0f; ty = 0f })) e
  first_is_last r (suc k) e = ap (next pass) (first_is_last r k e)

  comes_to : (sx sy : Float) (r : Refusal) (most : ℕ) → 1 ≤ most → pass (record { theta = 0f; tx = 0f; ty = 0f }) (neg 1f ⊘ 0f) ≡ Err r → outcome_of sx sy (after pass most) ≡ record { passes = 1; answer = Err r }
  unfolding outcome_of
  comes_to sx sy r zero l e = absurd (none l)
    where
      none : 1 ≤ 0 → ⊥
      none l = omega arith
  comes_to sx sy r (suc k) l e = ap (outcome_of sx sy) (first_is_last r k e)

refused_is : (o : Outcome) → (o ≡ record { passes = 1; answer = Err FewPixels }) ⊎ (o ≡ record { passes = 1; answer = Err Flat }) → RefusedAtOnce o
refused_is o (inl e) = record { passes = ap (λ (z : Outcome). z.passes) e; number = inl (ap (λ (z : Outcome). z.answer) e) }
refused_is o (inr e) = record { passes = ap (λ (z : Outcome). z.passes) e; number = inr (ap (λ (z : Outcome). z.answer) e) }

-- ---- the call

-- a prepared pixel is the gray
pixel_is : (bytes : List ℕ) (w h ksize v i : ℕ) → ksize ≡ 1 → bytes ≡ tab (w * h) (λ _. v) → length bytes ≡ w * h → i < w * h → get_or (prepared_of bytes w h w h ksize) i nan ≡ f32 v
unfolding gray_of
pixel_is bytes w h ksize v i one e sized l =
    ap (λ (z : List Float). get_or z i nan) (prepared_one bytes w h w h ksize one ∙ scaled_same bytes w h w h refl refl)
    ∙ get_d_tab (length bytes) i (λ i. f32 (get_or bytes i 0)) nan (rw sized l)
    ∙ ap f32 (ap (λ (z : List ℕ). get_or z i 0) e ∙ get_d_tab (w * h) i (λ _. v) 0 l)

module _ (t i : List ℕ) (w h : ℕ) (cfg : EccConfig) (v : ℕ) (P : Plain w h cfg) (e : t ≡ tab (w * h) (λ _. v)) (sized : length t ≡ w * h) (few : w * h ≤ 2 ^ 24) (least : w * h * v ≤ 2 ^ 24) (most : 1 ≤ cfg.max_iter) where
  run_refuses : RefusedAtOnce (run_of t i w h w h cfg)
  unfolding run_of pass_in
  run_refuses = refused_is _ (by (at_once _ w h v cfg.eps (λ j l. pixel_is t w h cfg.gauss_filt_size v j P.filter_one e sized l) few least _ _ _ _ _))
    where
      by : (pass_in t i w h w h cfg (record { theta = 0f; tx = 0f; ty = 0f }) (neg 1f ⊘ 0f) ≡ Err FewPixels) ⊎ (pass_in t i w h w h cfg (record { theta = 0f; tx = 0f; ty = 0f }) (neg 1f ⊘ 0f) ≡ Err Flat) → (run_of t i w h w h cfg ≡ record { passes = 1; answer = Err FewPixels }) ⊎ (run_of t i w h w h cfg ≡ record { passes = 1; answer = Err Flat })
      by (inl e) = inl (comes_to (pass_in t i w h w h cfg) (f32 w ⊘ f32 w) (f32 h ⊘ f32 h) FewPixels cfg.max_iter most e)
      by (inr e) = inr (comes_to (pass_in t i w h w h cfg) (f32 w ⊘ f32 w) (f32 h ⊘ f32 h) Flat cfg.max_iter most e)

  aligned_refuses : (work marks : ℕ) → check_of (length t) (length i) w h cfg work marks ≡ 0 → RefusedAtOnce (aligned_of t i w h cfg work marks)
  unfolding aligned_of
  aligned_refuses work marks past =
      subst RefusedAtOnce (sym (pick_true _ _ _ (eq-eqb _ 0 past) ∙ ap (λ (s : Sides). run_of t i w h s.w s.h cfg) P.sides_stay)) run_refuses

-- THE STATEMENT
pub flat_is_refused : FlatIsRefused
flat_is_refused c gray ok most P e least =
    let p = past _ _ _ _ _ _ _ ok in
    let few : w c * h c ≤ 2 ^ 24 = le_trans (mul-le-mul p.sides.w_most p.sides.h_most) (lit≤ tt) in
    subst RefusedAtOnce (sym c.admitted.0)
    (aligned_refuses (template c) (input c) (w c) (h c) (cfg c) gray P e p.template_fits few least most (length (work c)) (length (marks c)) ok)
