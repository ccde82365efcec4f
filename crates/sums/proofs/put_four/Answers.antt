-- `sums::put_four` meets its contract. Assumes nothing.
use native.Mathlib.Omega.{arith}
use Rattle.sums.proofs.Fours.{four_put}
use Rattle.sums.proofs.put_four.Goals as goal

pub returns : goal.returns
returns c = four_put _ _ _ (omega arith)
