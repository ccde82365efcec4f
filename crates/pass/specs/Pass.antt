-- One pass of document 000, test for test in its order: 5, 6, 7, the stop, then 8, 9, the update and 10. Definitions only.
use Rattle.std.specs.Prelude.{ℕ, ◌*◌, List, ltb, Float, Ok, Err, Result}
use Rattle.lists.specs.Marked.{pick}
use Rattle.marks.specs.Marks.{count_on}
use Rattle.places.specs.Point.{marks_of}
use Rattle.warp.specs.Warp.{warp_of}
use Rattle.stats.specs.Stats.{centred_of, centered_stats}
use Rattle.stats.specs.declared.Stats.{Stats}
use Rattle.verdict.specs.Verdict.{verdict_of}
use Rattle.verdict.specs.declared.Verdict.{Verdict}
use Rattle.verdict.specs.declared.Verdict.TheVariants.{Settled, Unsettled}
use Rattle.pose.specs.Pose.{affine_from_theta_tx_ty}
use Rattle.pose.specs.declared.Pose.{Pose}
use Rattle.sums.specs.Sums.{steep_of}
use Rattle.solve.specs.Solve.{Ended, solve_of}
use Rattle.solve.specs.declared.Step.TheVariants.{Stop}
use Rattle.refusals.specs.declared.Refusal.TheVariants.{FewPixels}
use Rattle.refusals.specs.declared.Refusal.{Refusal}

-- what follows a verdict: number 6 or 7 and a settled correlation end the pass
unfoldable pub onward : Result Verdict Refusal → (Float → Ended) → Ended
onward (Err refusal) update = Err refusal
onward (Ok (Settled rho)) update = Ok (Stop rho)
onward (Ok (Unsettled rho)) update = update rho

-- a pass after its warp, by its marks, the prepared template and the three warped images: the tests 6 and 7, the stop, the second half
unfoldable pub weighed_of : List ℕ → List Float → List Float → List Float → List Float → ℕ → ℕ → Float → Pose → Float → Ended
weighed_of marks template warped gxw gyw w h eps p last =
    let n = w * h in
    let template_zm = centred_of marks n template in
    let image_zm = centred_of marks n warped in
    let s = centered_stats marks n template warped in
    onward (verdict_of s last eps) (solve_of marks n p (steep_of w h p.theta gxw gyw) gxw gyw template_zm image_zm s)

-- the statistics of a pass at a pose, over the pixels that it marks: of the prepared template and the warped input
abbrev pub stats_at : List Float → List Float → ℕ → ℕ → Pose → Stats
stats_at template input w h p = let map = affine_from_theta_tx_ty p in centered_stats (marks_of map w h) (w * h) template (warp_of input map w h)

-- the pass of the prepared template over the prepared input and its gradients, at a pose
unfoldable pub pass_of : List Float → List Float → List Float → List Float → ℕ → ℕ → Float → Pose → Float → Ended
pass_of template input gx gy w h eps p last =
    let map = affine_from_theta_tx_ty p in
    let marks = marks_of map w h in
    pick (ltb (count_on marks (w * h)) 16) (Err FewPixels) (weighed_of marks template (warp_of input map w h) (warp_of gx map w h) (warp_of gy map w h) w h eps p last)
