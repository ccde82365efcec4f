-- Tests one after another, and the entry of a kind in a table. Assumes nothing.
use Prim.Native.Nat.{ℕ}
use mathlib.Core.Bool.{Bool, true, false, ◌&&◌, true≢false}
use mathlib.Core.Path.{◌≡◌, refl, sym, ◌∙◌}
use mathlib.Core.List.{List, [], ◌∷◌}
use borrow.Author.Tests.{ne_eqb}
use lib.Dec.{eqb}
use Rattle.lists.proofs.Cases.{pick_false}
use Rattle.vectors.specs.Kinds.{of_kind}

-- ---- two tests
pub both : {a b : Bool} → a ≡ true → b ≡ true → (a && b) ≡ true
both {a} {b} e f = rw (e, f)

pub first_failed : {a : Bool} (b : Bool) → a ≡ false → (a && b) ≡ false
first_failed {a} b e = rw e

pub second_failed : (a : Bool) {b : Bool} → b ≡ false → (a && b) ≡ false
second_failed true e = e
second_failed false e = refl

pub first_of : (a b : Bool) → (a && b) ≡ true → a ≡ true
first_of true b e = refl
first_of false b e = e

pub second_of : (a b : Bool) → (a && b) ≡ true → b ≡ true
second_of true b e = e
second_of false b e = absurd (true≢false (sym e))

-- what the last one says, once the others have passed
pub and_passed : {a : Bool} {x y : Bool} → a ≡ true → x ≡ y → x ≡ (a && y)
and_passed {a} {x} {y} e f = rw e f

-- ---- a table that lacks a kind
abbrev pub Absent : ℕ → List (ℕ × Bool) → Type 0
Absent kind [] = Unit {0}
Absent kind (entry ∷ rest) = (kind ≡ entry.0 → ⊥) × Absent kind rest

pub kind_none : (kind : ℕ) (table : List (ℕ × Bool)) → Absent kind table → false ≡ of_kind kind table
kind_none kind [] a = refl
kind_none kind (entry ∷ rest) a = kind_none kind rest a.1 ∙ sym (pick_false (eqb kind entry.0) _ _ (ne_eqb kind entry.0 a.0))
