-- Digits that are read from a place of a word end at that place or behind it, and within the word, and their number is held. Assumes nothing.
use Prim.Native.Nat.{ℕ, ◌≤◌}
use mathlib.Core.Path.{◌≡◌, sym, subst}
use mathlib.Core.List.{List}
use native.Mathlib.Omega.{arith}
use borrow.Author.Tests.{ltb-true, ltb-false}
use lib.Dec.{ltb}
use lib.ListN.{length}
use Rattle.lists.proofs.Cases.{choose}
use Rattle.scan.specs.declared.Digits.{Digits}
use Rattle.scan.specs.Scan.{digits_at}
use Rattle.scan.proofs.Bounds.{next_within, value_held}

module _ (s : List ℕ) (a v m : ℕ) where
  next_least : a ≤ (digits_at s a v m).next
  unfolding digits_at
  next_least = omega arith

  next_most : a ≤ length s → (digits_at s a v m).next ≤ length s
  next_most h =
      choose (ltb a (digits_at s a v m).next)
      (λ e. next_within s a v m (ltb-true a (digits_at s a v m).next e))
      (λ e. omega (arith, ltb-false a (digits_at s a v m).next e))

-- d is what was read
module _ (s : List ℕ) (a v m : ℕ) {d : Digits} (e : d ≡ digits_at s a v m) where
  pub from_start : a ≤ d.next
  from_start = subst (λ (z : Digits). a ≤ z.next) (sym e) (next_least s a v m)

  pub to_end : a ≤ length s → d.next ≤ length s
  to_end h = subst (λ (z : Digits). z.next ≤ length s) (sym e) (next_most s a v m h)

  pub held_to : d.value ≤ m
  held_to = subst (λ (z : Digits). z.value ≤ m) (sym e) (value_held s a v m)
