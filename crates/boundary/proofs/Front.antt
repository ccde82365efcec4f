-- A list stored at the front of a slice that has room for it, and a slice that has none. Assumes nothing.
use Prim.Native.Nat.{◌≤◌, ◌<◌}
use mathlib.Core.Path.{◌≡◌, sym, ◌∙◌}
use mathlib.Core.List.{List}
use native.Mathlib.Nat.{zero-add}
use borrow.Author.Tests.{lt-ltb, le-ltb}
use lib.ListN.{length}
use Rattle.lists.proofs.Cases.{pick_true, pick_false}
use Rattle.lists.proofs.Copy.{stored, stored_is}
use Rattle.boundary.specs.Boundary.{fronted}

module _ {A : Type 0} (xs : List A) where
  -- room for the list
  pub stored_front : (l : List A) → length l ≤ length xs → stored xs 0 l ≡ fronted l xs
  unfolding fronted
  stored_front l h = stored_is xs 0 l (rw zero-add h) ∙ sym (pick_false _ _ _ (le-ltb _ _ h))

  -- no room
  pub short_front : (l : List A) → length xs < length l → xs ≡ fronted l xs
  unfolding fronted
  short_front l h = sym (pick_true _ _ _ (lt-ltb _ _ h))
