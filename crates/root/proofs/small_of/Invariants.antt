-- `root::small_of` meets its contract. The invariant: m is b * 2 ^ (28 - 2 h), so that quartering it loses nothing. Assumes nothing.
use mathlib.Core.Path.{◌≡◌}
use Prim.Native.Nat.{ℕ, ◌+◌, ◌-◌, ◌*◌, ◌^◌, ◌≤◌}
use Rattle.root.proofs.small_of.Given as goal

abbrev pub Quartered : (b m h : ℕ) → Type 0
Quartered b m h = (m ≡ b * 2 ^ (28 - (h + h))) × (h ≤ 13) × (2 ^ 23 ≤ m)

abbrev pub invariant-loop-m : goal.invariant-loop-m
invariant-loop-m l = Quartered l.b l.m l.h

abbrev pub decreases-loop-m : goal.decreases-loop-m
decreases-loop-m l = l.m
