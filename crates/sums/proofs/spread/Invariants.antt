-- `sums::spread` meets its contract. The loop's invariant: the first k pixels are laid out, and what stands behind them is as it was. Assumes nothing.
use Rattle.sums.specs.Fours.{Spread}
use Rattle.sums.proofs.spread.Given as goal

abbrev pub invariant-loop-k : goal.invariant-loop-k
invariant-loop-k l = Spread l.part l.n l.at l.k l.initial.m l.m
