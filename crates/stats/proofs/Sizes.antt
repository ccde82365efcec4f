-- A centred image has n numbers. Assumes nothing.
use Prim.Native.Nat.{ℕ}
use mathlib.Core.Path.{◌≡◌}
use mathlib.Core.List.{List}
use lib.ListN.{length}
use lib.Ieee.{Float}
use Rattle.lists.proofs.Grow.{length_tab}
use Rattle.stats.specs.Stats.{centred_of}

pub length_centred : (ms : List ℕ) (n : ℕ) (xs : List Float) → length (centred_of ms n xs) ≡ n
unfolding centred_of
length_centred ms n xs = length_tab n _
