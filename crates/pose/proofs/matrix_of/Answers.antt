-- `pose::matrix_of` meets its contract. Assumes nothing.
use mathlib.Core.Path.{sym, ap, ◌∙◌}
use Rattle.pose.specs.Pose.{matrix_of}
use Rattle.pose.proofs.matrix_of.Goals as goal

pub returns-in-Err : goal.returns-in-Err
unfolding matrix_of
returns-in-Err c = cc

pub returns-in-Ok : goal.returns-in-Ok
unfolding matrix_of
returns-in-Ok c = c.posed_matrix.ensures ∙ sym (ap matrix_of c.in-Ok.is)
