-- `quayhollow::quayhollow_matrix` meets its contract. Assumes nothing.
use mathlib.Core.Path.{ap, ◌∙◌}
use Rattle.inverse.specs.declared.Matrix3.{Matrix3}
use Rattle.pose.specs.Pose.{matrix_of}
use Rattle.inverse.specs.Inverse.{entries_of}
use Rattle.boundary.specs.Boundary.{fronted}
use Rattle.quayhollow.proofs.quayhollow_matrix.Goals as goal

pub returns : goal.returns
returns c = c.put_matrix.ensures ∙ ap (λ (x : Matrix3). fronted (entries_of x) c.args.out.now) (c.matrix_of.ensures ∙ ap matrix_of c.handed.ensures)
