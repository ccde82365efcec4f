-- Document 000's find_transform_ecc_euclidean with document 01's numbers: the checks, the passes, and the lent memory afterwards. Definitions only.
use Rattle.std.specs.Prelude.{◌≡◌, ℕ, ◌*◌, List, eqb, length, Float, Err}
use Rattle.lists.specs.Lists.{tab, put}
use Rattle.lists.specs.Marked.{pick, words_for}
use Rattle.floats.specs.F32.{◌⊘◌, f32, 0f}
use Rattle.settings.specs.Settings.{edge_of}
use Rattle.settings.specs.Sides.{resized_of}
use Rattle.settings.specs.declared.EccConfig.{EccConfig}
use Rattle.checks.specs.Checks.{check_of}
use Rattle.prepare.specs.Prepared.{prepared_of}
use Rattle.gradients.specs.Gradients.{gradient_x, gradient_y}
use Rattle.pose.specs.declared.Pose.{Pose}
use Rattle.refusals.specs.Refusals.{refusal_of}
use Rattle.pose.specs.declared.Outcome.{Outcome}
use Rattle.solve.specs.Solve.{Ended}
use Rattle.pass.specs.Pass.{pass_of}
use Rattle.runs.specs.Runs.{after, outcome_of}

-- a pass of a call: the prepared template over the prepared input and its gradients, all tw by th
unfoldable pub pass_in : List ℕ → List ℕ → ℕ → ℕ → ℕ → ℕ → EccConfig → Pose → Float → Ended
pass_in template input w h tw th cfg =
    let blurred = prepared_of input w h tw th cfg.gauss_filt_size in
    pass_of (prepared_of template w h tw th cfg.gauss_filt_size) blurred (gradient_x tw th blurred) (gradient_y tw th blurred) tw th cfg.eps

-- the call past its checks: max_iter passes at the most, and the pose in original pixels by the factors tw / w and th / h
unfoldable pub run_of : List ℕ → List ℕ → ℕ → ℕ → ℕ → ℕ → EccConfig → Outcome
run_of template input w h tw th cfg = outcome_of (f32 tw ⊘ f32 w) (f32 th ⊘ f32 h) (after (pass_in template input w h tw th cfg) cfg.max_iter)

-- the answer and the pass count; `work` and `marks` are the lengths of what is lent
unfoldable pub aligned_of : List ℕ → List ℕ → ℕ → ℕ → EccConfig → ℕ → ℕ → Outcome
aligned_of template input w h cfg work marks =
    let number = check_of (length template) (length input) w h cfg work marks in
    let s = resized_of (edge_of cfg) w h in
    pick (eqb number 0) (run_of template input w h s.w s.h cfg) (record { passes = 0; answer = Err (refusal_of number) })

-- the work and the marks afterwards: unchanged where a check failed; else the first 12n floats are +0 and the words of the first n marks 0, whole
unfoldable pub work_after : ℕ → ℕ → List Float → List Float
work_after number n xs = pick (eqb number 0) (put xs 0 (tab (12 * n) (λ _. 0f))) xs

unfoldable pub marks_after : ℕ → ℕ → List ℕ → List ℕ
marks_after number n ms = pick (eqb number 0) (put ms 0 (tab (words_for n) (λ _. 0))) ms

-- both, from before to after a call: `number` is that of the check that refuses, 0 where none does, and n counts the pixels
abbrev pub Leaves : ℕ → ℕ → List Float → List Float → List ℕ → List ℕ → Type 0
Leaves number n work work' marks marks' = (work' ≡ work_after number n work) × (marks' ≡ marks_after number n marks)
