-- `root::isqrt` meets its contract. The invariant: with k digits to come, some r has the root's digits from 2 ^ k up, so that the root is from r to below r + 2 ^ k;
-- s is its square, p is r * 2 ^ k, and bit is a quarter of the square of 2 ^ k, which is the square of the next digit's weight. Assumes nothing.
use mathlib.Core.Path.{◌≡◌}
use Prim.Native.Nat.{ℕ, ◌+◌, ◌*◌, ◌/◌, ◌^◌, ◌≤◌, ◌<◌}
use Rattle.root.proofs.isqrt.Given as goal

pub record Found (n s p bit k : ℕ) : Type 0 where
  pub r : ℕ
  pub low : r * r ≤ n
  pub high : n < (r + 2 ^ k) * (r + 2 ^ k)
  pub few : r + 2 ^ k ≤ 2 ^ 25
  pub square : s ≡ r * r
  pub scaled : p ≡ r * 2 ^ k
  pub weight : bit ≡ 2 ^ k * 2 ^ k / 4

pub record Part (n s p bit : ℕ) : Type 0 where
  pub k : ℕ
  pub found : Found n s p bit k

abbrev pub invariant-loop-bit : goal.invariant-loop-bit
invariant-loop-bit l = Part l.n l.s l.p l.bit

abbrev pub decreases-loop-bit : goal.decreases-loop-bit
decreases-loop-bit l = l.bit
