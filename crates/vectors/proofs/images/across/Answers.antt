-- `vectors::images::across` meets its contract. Assumes nothing.
use Rattle.gradients.specs.Gradients.{gradient_x}
use Rattle.gradients.proofs.Sizes.{length_gradient_x}
use Rattle.vectors.proofs.images.across.Goals as goal

pub returns : goal.returns
returns c = c.graded.ensures gradient_x length_gradient_x (λ p q w h r e. e)
