-- `pose::number_of` meets its contract. Assumes nothing.
use mathlib.Core.Path.{sym, ap, ◌∙◌}
use Rattle.pose.specs.Pose.{number_of, told_of}
use Rattle.pose.proofs.number_of.Goals as goal

pub returns-in-Err : goal.returns-in-Err
unfolding told_of
returns-in-Err c = c.number.ensures ∙ sym (ap number_of c.in-Err.is)

pub returns-in-Ok : goal.returns-in-Ok
unfolding told_of
returns-in-Ok c = cc
