-- How a pass ends, by its tests in their order: the count of the marks, then, once the statistics are known, the others. Assumes nothing.
use Rattle.std.specs.Prelude.{None, Option, Ok, Err, Result}
use Prim.Native.Nat.{ℕ, ◌*◌, ◌≤◌, ◌<◌}
use mathlib.Core.Path.{◌≡◌, sym, ◌∙◌}
use mathlib.Core.List.{List}
use native.Mathlib.Omega.{arith}
use lib.Dec.{ltb}
use lib.Ieee.{Float}
use borrow.Author.Tests.{lt-ltb, le-ltb}
use Rattle.lists.specs.Marked.{pick}
use Rattle.lists.proofs.Cases.{pick_true, pick_false}
use Rattle.marks.specs.Marks.{count_on}
use Rattle.rows.specs.Rows.{marked_rows_of}
use Rattle.rows.proofs.Between.{bare_count}
use Rattle.pose.specs.Pose.{affine_from_theta_tx_ty}
use Rattle.pose.specs.declared.Map.{Map}
use Rattle.pose.specs.declared.Pose.{Pose}
use Rattle.places.specs.Point.{marks_of}
use Rattle.warp.specs.Warp.{warp_of}
use Rattle.stats.specs.Stats.{centred_of, stats_of}
use Rattle.stats.specs.declared.Stats.{Stats}
use Rattle.sums.specs.Sums.{steep_of}
use Rattle.solve.specs.Solve.{Ended, solve_of}
use Rattle.verdict.specs.Verdict.{verdict_of}
use Rattle.verdict.specs.declared.Verdict.{Verdict}
use Rattle.pass.specs.Pass.{onward, weighed_of, pass_of}
use Rattle.rows.specs.declared.Rows.{Rows}
use Rattle.refusals.specs.declared.Refusal.TheVariants.{FewPixels}
use Rattle.solve.specs.declared.Step.TheVariants.{Stop}
use Rattle.refusals.specs.declared.Refusal.{Refusal}

-- ---- the verdict on the statistics
module _ (ms : List ℕ) (template warped j1 j2 : List Float) (w h : ℕ) (eps : Float) (p : Pose) (last : Float) where
  abbrev tz : List Float
  tz = centred_of ms (w * h) template

  abbrev iz : List Float
  iz = centred_of ms (w * h) warped

  abbrev solved : Stats → Float → Ended
  solved s = solve_of ms (w * h) p (steep_of w h p.theta j1 j2) j1 j2 tz iz s

  abbrev answer : Ended
  answer = weighed_of ms template warped j1 j2 w h eps p last

  module _ (s : Stats) (is_s : s ≡ stats_of ms (w * h) tz iz) (v : Result Verdict Refusal) (is_v : v ≡ verdict_of s last eps) where
    by_verdict : onward v (solved s) ≡ answer
    unfolding weighed_of
    by_verdict = rw (is_v, is_s)

    pub on_bad : (refusal : Refusal) → v ≡ Err refusal → Err refusal ≡ answer
    unfolding onward
    on_bad refusal e = rw e at by_verdict

    pub on_settled : (rho : Float) → v ≡ Ok (Verdict.Settled rho) → Ok (Stop rho) ≡ answer
    unfolding onward
    on_settled rho e = rw e at by_verdict

    pub on_unsettled : (rho : Float) → v ≡ Ok (Verdict.Unsettled rho) → (r : Ended) → r ≡ solved s rho → r ≡ answer
    unfolding onward
    on_unsettled rho e r q = q ∙ rw e at by_verdict

-- ---- the marks first
module _ (template input gx gy : List Float) (w h : ℕ) (eps : Float) (p : Pose) (last : Float) (map : Map) (is_map : map ≡ affine_from_theta_tx_ty p) where
  abbrev weighed : Ended
  weighed = weighed_of (marks_of map w h) template (warp_of input map w h) (warp_of gx map w h) (warp_of gy map w h) w h eps p last

  by_map : pick (ltb (count_on (marks_of map w h) (w * h)) 16) (Err FewPixels) weighed ≡ pass_of template input gx gy w h eps p last
  unfolding pass_of
  by_map = rw is_map

  module _ (found : ℕ) (is_found : found ≡ count_on (marks_of map w h) (w * h)) where
    pub few_marks : found < 16 → Err FewPixels ≡ pass_of template input gx gy w h eps p last
    few_marks l = sym (pick_true _ _ _ (rw (← is_found) (lt-ltb found 16 l))) ∙ by_map

    pub enough_marks : 16 ≤ found → (r : Ended) → r ≡ weighed → r ≡ pass_of template input gx gy w h eps p last
    enough_marks l r q = q ∙ sym (pick_false _ _ _ (rw (← is_found) (le-ltb found 16 l))) ∙ by_map

  -- no row holds a mark: none is counted
  pub no_marks : (rows : Option Rows) → rows ≡ marked_rows_of (marks_of map w h) w h → rows ≡ None → Err FewPixels ≡ pass_of template input gx gy w h eps p last
  no_marks rows e k = few_marks 0 (sym (bare_count (marks_of map w h) w h (sym e ∙ k))) (omega arith)
