-- Only marked pixels count: templates that agree at the pixels that the passes of a call mark have the same answer. Assumes nothing.
use Prim.Native.Nat.{ℕ, zero, suc, ◌*◌, ◌<◌}
use mathlib.Core.Path.{◌≡◌, refl, sym, ap, ap₂, ◌∙◌}
use mathlib.Core.Bool.{true}
use mathlib.Core.List.{List}
use native.Mathlib.Omega.{arith}
use lib.ListN.{length, get_or}
use lib.Ieee.{Float, nan}
use borrow.Author.Tests.{eq-eqb}
use Rattle.lists.specs.Marked.{pick}
use Rattle.lists.proofs.Cases.{pick_true, pick_agree}
use Rattle.lists.proofs.Grow.{tab_ext}
use Rattle.floats.specs.F32.{◌⊖◌, ◌⊘◌, f32, 0f}
use Rattle.floats.proofs.Sums.{sum_agree}
use Rattle.settings.specs.Settings.{edge_of}
use Rattle.settings.specs.Sides.{resized_of}
use Rattle.settings.specs.declared.EccConfig.{EccConfig}
use Rattle.prepare.specs.Prepared.{prepared_of}
use Rattle.checks.specs.Checks.{size_of, check_of}
use Rattle.checks.proofs.Past.{past}
use Rattle.marks.specs.Marks.{on, count_on}
use Rattle.pose.specs.Pose.{affine_from_theta_tx_ty}
use Rattle.pose.specs.declared.Pose.{Pose}
use Rattle.pose.specs.declared.Outcome.{Outcome}
use Rattle.places.specs.Point.{marks_of}
use Rattle.stats.specs.Stats.{mean_of, centred_of}
use Rattle.solve.specs.Solve.{Ended}
use Rattle.pass.specs.Pass.{weighed_of, pass_of}
use Rattle.runs.specs.Runs.{Run, going, stopped, refused, landed, next, after, outcome_of}
use Rattle.alignment.specs.Aligned.{pass_in, run_of, aligned_of}
use Rattle.demands.specs.Agree.{marks_next, run_after, prepared_at, SeenAlike}
use Rattle.demands.proofs.Bits.{prepared_same}

-- ---- prepared templates

module _ (xs ys : List Float) where
  module _ (marks : List ℕ) (n : ℕ) (alike : (i : ℕ) → i < n → on marks i ≡ true → get_or xs i nan ≡ get_or ys i nan) where
    mean_same : mean_of marks n xs ≡ mean_of marks n ys
    unfolding mean_of
    mean_same = ap (λ (s : Float). s ⊘ f32 (count_on marks n)) (sum_agree (on marks) (on marks) (λ i. get_or xs i nan) (λ i. get_or ys i nan) n (λ i l. refl) alike)

    -- what is not marked is 0 in both
    centred_same : centred_of marks n xs ≡ centred_of marks n ys
    unfolding centred_of
    centred_same =
        tab_ext n (λ i. pick (on marks i) (get_or xs i nan ⊖ mean_of marks n xs) 0f) (λ i. pick (on marks i) (get_or ys i nan ⊖ mean_of marks n ys) 0f)
        (λ i l. pick_agree (on marks i) (on marks i) _ _ 0f 0f refl (λ e. ap₂ ◌⊖◌ (alike i l e) mean_same) (λ e. refl))

  module _ (input gx gy : List Float) (w h : ℕ) (eps : Float) where
    abbrev one : Pose → Float → Ended
    one = pass_of xs input gx gy w h eps

    abbrev other : Pose → Float → Ended
    other = pass_of ys input gx gy w h eps

    pass_same : (p : Pose) (last : Float) → ((i : ℕ) → i < w * h → on (marks_of (affine_from_theta_tx_ty p) w h) i ≡ true → get_or xs i nan ≡ get_or ys i nan) → one p last ≡ other p last
    unfolding pass_of weighed_of
    pass_same p last alike = rw (centred_same (marks_of (affine_from_theta_tx_ty p) w h) (w * h) alike)

    next_same : (r : Run) → ((i : ℕ) → i < w * h → marks_next w h r i ≡ true → get_or xs i nan ≡ get_or ys i nan) → next one r ≡ next other r
    unfolding next marks_next
    next_same (going k p rho last) alike = ap (landed k p) (pass_same p last alike)
    next_same (stopped k p rho) alike = refl
    next_same (refused k n) alike = refl

    after_same : (m : ℕ) → ((k i : ℕ) → k < m → i < w * h → marks_next w h (after one k) i ≡ true → get_or xs i nan ≡ get_or ys i nan) → after one m ≡ after other m
    unfolding after
    after_same zero alike = refl
    after_same (suc m) alike = next_same (after one m) (λ i. alike m i (omega arith)) ∙ ap (next other) (after_same m (λ k i l. alike k i (omega arith)))

-- ---- calls

module _ (template template' input : List ℕ) (w h : ℕ) (cfg : EccConfig) (alike : SeenAlike template template' input w h cfg) where
  abbrev tw : ℕ
  tw = (resized_of (edge_of cfg) w h).w

  abbrev th : ℕ
  th = (resized_of (edge_of cfg) w h).h

  run_same : length template ≡ w * h → length template' ≡ w * h → run_of template input w h tw th cfg ≡ run_of template' input w h tw th cfg
  unfolding run_of pass_in SeenAlike run_after size_of prepared_at
  run_same f f' =
      let ksize = cfg.gauss_filt_size in
      ap (outcome_of (f32 tw ⊘ f32 w) (f32 th ⊘ f32 h))
      (after_same (prepared_of template w h tw th ksize) (prepared_of template' w h tw th ksize) _ _ _ tw th cfg.eps cfg.max_iter
      (λ k i l m e. prepared_same template template' w h tw th ksize f f' i m (alike i (record { done = k; few = l; within = m; marked = e }))))

-- THE THEOREM, of the definition that the alignment's contract cites
pub same_aligned : (template template' input : List ℕ) (w h : ℕ) (cfg : EccConfig) (k m k' m' : ℕ) →
    check_of (length template) (length input) w h cfg k m ≡ 0 →
    check_of (length template') (length input) w h cfg k' m' ≡ 0 →
    SeenAlike template template' input w h cfg →
    aligned_of template input w h cfg k m ≡ aligned_of template' input w h cfg k' m'
unfolding aligned_of
same_aligned template template' input w h cfg k m k' m' checked checked' alike =
    pick_true _ _ _ (eq-eqb _ 0 checked)
    ∙ run_same template template' input w h cfg alike (past _ _ w h cfg k m checked).template_fits (past _ _ w h cfg k' m' checked').template_fits
    ∙ sym (pick_true _ _ _ (eq-eqb _ 0 checked'))

-- of two calls with the same input, sides and settings
pub same_result : (template template' : List ℕ) {input input' : List ℕ} {w w' h h' : ℕ} {cfg cfg' : EccConfig} (k m k' m' : ℕ) {o o' : Outcome} → input ≡ input' → w ≡ w' → h ≡ h' → cfg ≡ cfg' →
    check_of (length template) (length input) w h cfg k m ≡ 0 →
    check_of (length template') (length input') w' h' cfg' k' m' ≡ 0 →
    SeenAlike template template' input w h cfg →
    o ≡ aligned_of template input w h cfg k m → o' ≡ aligned_of template' input' w' h' cfg' k' m' → o ≡ o'
same_result template template' {input} {w = w} {h = h} {cfg = cfg} k m k' m' i v j c checked checked' alike e e' =
    e ∙ same_aligned template template' input w h cfg k m k' m' checked (rw (i, v, j, c) checked') alike ∙ rw (i, v, j, c) (sym e')
