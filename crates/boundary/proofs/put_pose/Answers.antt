-- `boundary::put_pose` meets its contract. Assumes nothing.
use mathlib.Core.Path.{sym, ap, ◌∙◌}
use mathlib.Core.List.{List}
use lib.Ieee.{Float}
use Rattle.pose.specs.Pose.{told_of}
use Rattle.boundary.specs.Boundary.{fronted, pose_of}
use Rattle.boundary.proofs.put_pose.Goals as goal

pub returns-in-Err : goal.returns-in-Err
unfolding pose_of told_of
returns-in-Err c = c.put_four.ensures ∙ ap (λ (l : List Float). fronted l c.args.out.now) (sym (ap pose_of c.in-Err.is))

pub returns-in-Ok : goal.returns-in-Ok
unfolding pose_of told_of
returns-in-Ok c = c.put_four-in-Ok.ensures ∙ ap (λ (l : List Float). fronted l c.args.out.now) (sym (ap pose_of c.in-Ok.is))
