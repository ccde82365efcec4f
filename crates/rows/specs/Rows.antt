-- Which rows hold a mark: the least and the greatest of them, or none. By the marks alone, a byte each. Definitions only.
use Rattle.std.specs.Prelude.{ℕ, zero, suc, ◌+◌, ◌*◌, ◌≤◌, ◌<◌, ◌≡◌, Bool, true, false, List, ltb, None, Some, Option}
use Rattle.lists.specs.Marked.{pick, count_marked}
use Rattle.marks.specs.Marks.{on}
use Rattle.rows.specs.declared.Rows.{Rows}

-- the row y holds a mark: of its w pixels more than 0 are marked
unfoldable pub row_marked : List ℕ → ℕ → ℕ → Bool
row_marked marks w y = ltb 0 (count_marked (λ x. on marks (y * w + x)) w)

-- the row y, below all rows so far, holds a mark: it is the last that does, and the first if there was none
unfoldable pub with_row : Option Rows → ℕ → Option Rows
with_row None y = Some (record { first = y; last = y })
with_row (Some rows) y = Some (record { first = rows.first; last = y })

-- the first and the last of h rows that hold a mark
unfoldable pub marked_rows_of : List ℕ → ℕ → ℕ → Option Rows
marked_rows_of marks w zero = None
marked_rows_of marks w (suc y) = pick (row_marked marks w y) (with_row (marked_rows_of marks w y) y) (marked_rows_of marks w y)

-- ---- that these are the least and the greatest

-- what an answer says of h rows
unfoldable pub Told : List ℕ → ℕ → ℕ → Option Rows → Type 0
Told marks w h None = (y : ℕ) → y < h → row_marked marks w y ≡ false
Told marks w h (Some rows) =
    (row_marked marks w rows.first ≡ true) × (row_marked marks w rows.last ≡ true) × (rows.first ≤ rows.last) × (rows.last < h)
    × ((y : ℕ) → y < rows.first → row_marked marks w y ≡ false) × ((y : ℕ) → rows.last < y → y < h → row_marked marks w y ≡ false)

unfoldable pub LeastAndGreatest : Type 0
LeastAndGreatest = (marks : List ℕ) (w h : ℕ) → Told marks w h (marked_rows_of marks w h)
