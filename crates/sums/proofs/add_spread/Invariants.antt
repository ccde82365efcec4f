-- `sums::add_spread` meets its contract. The loop's invariant: k pixels are added to the sixteen sums that were read, and `left` has a one for each of the others. Assumes nothing.
use Prim.Native.Nat.{◌+◌, ◌-◌, ◌*◌, ◌^◌, ◌≤◌, ◌<◌}
use mathlib.Core.Path.{◌≡◌}
use Rattle.sums.specs.Fours.{four_in, fours_of}
use Rattle.sums.proofs.add_spread.Given as goal

abbrev pub invariant-loop-left : goal.invariant-loop-left
invariant-loop-left l = (l.k ≤ l.len) × (0 < l.left → l.k < l.len) × (l.left ≡ 2 ^ (l.len - l.k) - 1)
    × (l.a ≡ fours_of l.part l.n (5 * l.n) (four_in l.m l.q) l.at l.k) × (l.b ≡ fours_of l.part l.n 0 (four_in l.m (l.q + 4)) l.at l.k)
    × (l.c ≡ fours_of l.part l.n l.n (four_in l.m (l.q + 8)) l.at l.k) × (l.d ≡ fours_of l.part l.n (3 * l.n) (four_in l.m (l.q + 12)) l.at l.k)

abbrev pub decreases-loop-left : goal.decreases-loop-left
decreases-loop-left l = l.len - l.k
