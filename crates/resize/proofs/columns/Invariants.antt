-- `resize::columns` stores the taps one after another. Assumes nothing.
use mathlib.Core.Path.{◌≡◌}
use lib.ListN.{take}
use Rattle.lists.specs.Lists.{tab}
use Rattle.resize.specs.Resize.{tap_of}
use Rattle.resize.proofs.columns.Given as goal

abbrev pub invariant-loop-x : goal.invariant-loop-x
invariant-loop-x l = take l.x l.taps ≡ tab l.x (tap_of l.src l.dst)
