-- Digits that are found lie within the list, and their number is held. Assumes nothing.
use Prim.Native.Nat.{ℕ, suc, ◌≤◌, ◌<◌}
use mathlib.Core.Bool.{Bool, true, false}
use mathlib.Core.List.{List, [], ◌∷◌}
use native.Mathlib.Omega.{arith}
use lib.ListN.{length, drop, length-drop}
use Rattle.lists.specs.Marked.{pick}
use Rattle.scan.specs.Scan.{is_digit, count_of, digits_at}

few : (s : List ℕ) → count_of s ≤ length s
unfolding count_of pick
few [] = omega arith
few (b ∷ s) = go (is_digit b) (few s)
  where
    go : (t : Bool) → count_of s ≤ length s → pick t (suc (count_of s)) 0 ≤ suc (length s)
    go true h = omega (arith, h)
    go false h = omega arith

module _ (s : List ℕ) (a v m : ℕ) where
  pub next_within : a < (digits_at s a v m).next → (digits_at s a v m).next ≤ length s
  unfolding digits_at
  next_within h = omega (arith, h, few (drop a s), length-drop a s)

  pub value_held : (digits_at s a v m).value ≤ m
  unfolding digits_at
  value_held = omega arith
