-- `boundary::code` meets its contract. Assumes nothing.
use Rattle.boundary.specs.Boundary.{code_of}
use Rattle.boundary.proofs.code.Goals as goal

pub returns : goal.returns
unfolding code_of
returns c = cc
