-- A SUM OVER ALL PIXELS IS ONE OVER THE MARKED ROWS: outside of them no pixel is marked, and unmarked pixels are passed by. Definitions only.
use Rattle.std.specs.Prelude.{ℕ, ◌+◌, ◌-◌, ◌*◌, ◌≤◌, ◌<◌, ◌≡◌, false, List, take, drop, Some}
use Rattle.lists.specs.Marked.{over_marked}
use Rattle.marks.specs.Marks.{on}
use Rattle.bits.specs.declared.Stretch.{Stretch}
use Rattle.rows.specs.Rows.{marked_rows_of}
use Rattle.rows.specs.declared.Rows.{Rows}

-- the pixels of these rows: from the first one's first on, before the row that follows the last
unfoldable pub pixels_of : Rows → ℕ → Stretch
pixels_of rows w = record { from = rows.first * w; to = (rows.last + 1) * w }

-- what an image w wide holds in the rows from `first` to `last`
unfoldable pub rows_in : {A : Type 0} → ℕ → ℕ → ℕ → List A → List A
rows_in first last w xs = take ((last + 1 - first) * w) (drop (first * w) xs)

-- of n pixels none before `from` is marked, and none from `to` on
pub record Between (marks : List ℕ) (n from to : ℕ) : Type 0 where
  pub order : from ≤ to
  pub inside : to ≤ n
  pub before : (i : ℕ) → i < from → on marks i ≡ false
  pub behind : (i : ℕ) → to ≤ i → i < n → on marks i ≡ false

-- the marks of an image lie between its first and its last marked row
unfoldable pub MarksBetween : Type 0
MarksBetween = (marks : List ℕ) (w h : ℕ) (rows : Rows) → marked_rows_of marks w h ≡ Some rows → Between marks (w * h) (pixels_of rows w).from (pixels_of rows w).to

-- THE LAW, for any fold: at `from` it is still what it began with, and at `to` it is what it is over all n pixels
unfoldable pub FoldBetween : Type 1
FoldBetween = (S : Type 0) (marks : List ℕ) (n from to : ℕ) → Between marks n from to → (step : S → ℕ → S) (s : S) →
    (s ≡ over_marked (on marks) step s from) × (over_marked (on marks) step s to ≡ over_marked (on marks) step s n)
