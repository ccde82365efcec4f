-- `vectors::images::down` meets its contract. Assumes nothing.
use Rattle.gradients.specs.Gradients.{gradient_y}
use Rattle.gradients.proofs.Sizes.{length_gradient_y}
use Rattle.vectors.proofs.images.down.Goals as goal

pub returns : goal.returns
returns c = c.graded.ensures gradient_y length_gradient_y (λ p q w h r e. e)
