-- White space lies within the list. Assumes nothing.
use Prim.Native.Nat.{ℕ, ◌<◌}
use mathlib.Core.Path.{◌≡◌, refl, sym, ap, ◌∙◌}
use mathlib.Core.Bool.{Bool, true, false, true≢false}
use mathlib.Core.List.{List}
use borrow.Author.Tests.{ltb-true, ltb-false}
use lib.Dec.{ltb}
use lib.ListN.{length, get_or, get_or-eq_default}
use Rattle.pgm.specs.Pgm.{blank}

-- white space is no byte past the end
pub blank_within : (s : List ℕ) (i : ℕ) → blank (get_or s i 0) ≡ true → i < length s
unfolding blank
blank_within s i e = go (ltb i (length s)) refl
  where
    go : (b : Bool) → ltb i (length s) ≡ b → i < length s
    go true h = ltb-true i (length s) h
    go false h = absurd (true≢false (sym e ∙ ap blank (get_or-eq_default s 0 (ltb-false i (length s) h))))
