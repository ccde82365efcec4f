-- `runs::run` meets its contract: at the loop's head k passes are done, the run is going on, and what passes keep is kept. Assumes nothing.
use Rattle.std.specs.Prelude.{Ok}
use Prim.Native.Nat.{◌+◌, ◌*◌}
use mathlib.Core.Path.{◌≡◌, refl, sym, ap, ◌∙◌}
use native.Mathlib.Omega.{arith}
use lib.Dec.{lit≤}
use lib.Ieee.{of_bits}
use Rattle.pass.proofs.Stays.{kept_kept}
use Rattle.pose.specs.Pose.{Answer}
use Rattle.runs.specs.Runs.{start}
use Rattle.runs.proofs.Moves.{move_within, pass_kept}
use Rattle.runs.proofs.Stays.{kept_none, marks_none, marks_kept}
use Rattle.runs.proofs.Ends.{started, passed, moving, refusing, stopping}
use Rattle.runs.proofs.run.Goals as goal

pub loop-k-init : goal.loop-k-init
unfolding start
loop-k-init c = (started _, unfold of_bits in lit≤ tt, kept_none, marks_none)

pub pass-requires : goal.pass-requires
pass-requires c =
    let l = c.loop-k in
    let p = c.requires in
    (p.0, record { images = omega (arith, l.invariant.2.size, p.1.images); places = omega (arith, l.invariant.3.size, p.1.places) }, l.invariant.1)

pub loop-k-preserved : goal.loop-k-preserved
loop-k-preserved c =
    let l = c.loop-k in
    let a = c.args in
    let f = c.pass.ensures.value ∙ pass_kept a.w a.h a.eps l.at l.last (a.w * a.h) a.work.now l.work l.invariant.2 in
    let g = c.in-Ok-Move.is ∙ ap Ok c.in-Ok-Move.field-0-is in (
      moving _ l.k l.at l.rho l.last l.invariant.0 _ f _ _ g,
      move_within a.w a.h a.eps l.at l.last _ _ _ _ _ f _ _ g,
      kept_kept l.invariant.2 c.pass.ensures.kept.0,
      marks_kept l.invariant.3 c.pass.ensures.kept.1,
    )

pub returns-in-Err : goal.returns-in-Err
returns-in-Err c =
    let l = c.loop-k in
    let a = c.args in
    let f = c.pass.ensures.value ∙ pass_kept a.w a.h a.eps l.at l.last (a.w * a.h) a.work.now l.work l.invariant.2 in record {
      result_value = sym (refusing _ l.k l.at l.rho l.last l.invariant.0 _ f a.sx a.sy _ a.max_iter c.in-Err.is (omega arith));
      kept = (kept_kept l.invariant.2 c.pass.ensures.kept.0, marks_kept l.invariant.3 c.pass.ensures.kept.1);
    }

pub returns-in-Ok-Stop : goal.returns-in-Ok-Stop
returns-in-Ok-Stop c =
    let l = c.loop-k in
    let a = c.args in
    let f = c.pass.ensures.value ∙ pass_kept a.w a.h a.eps l.at l.last (a.w * a.h) a.work.now l.work l.invariant.2 in record {
      result_value = ap (λ (z : Answer). record { passes = l.k + 1; answer = z }) c.unscaled.ensures
          ∙ sym (stopping _ l.k l.at l.rho l.last l.invariant.0 _ f a.sx a.sy _ a.max_iter (c.in-Ok-Stop.is ∙ ap Ok c.in-Ok-Stop.field-0-is) (omega arith));
      kept = (kept_kept l.invariant.2 c.pass.ensures.kept.0, marks_kept l.invariant.3 c.pass.ensures.kept.1);
    }

pub returns : goal.returns
returns c =
    let l = c.loop-k in
    let a = c.args in
    let done : l.k ≡ a.max_iter = omega arith in record {
      result_value = ap (λ (z : Answer). record { passes = a.max_iter; answer = z }) c.unscaled-2.ensures
          ∙ sym (passed _ a.max_iter l.at l.rho l.last (rw done at l.invariant.0) a.sx a.sy a.max_iter refl);
      kept = (l.invariant.2, l.invariant.3);
    }
