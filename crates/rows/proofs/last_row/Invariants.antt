-- `rows::last_row` meets its contract. The loop's invariant: the rows from y on hold no mark. Assumes nothing.
use Prim.Native.Nat.{◌*◌, ◌<◌}
use mathlib.Core.Path.{◌≡◌}
use Rattle.bits.specs.Words.{unpacked_of}
use Rattle.rows.specs.Rows.{marked_rows_of}
use Rattle.rows.proofs.last_row.Given as goal

abbrev pub invariant-loop-y : goal.invariant-loop-y
invariant-loop-y l = (l.first < l.y) × (marked_rows_of (unpacked_of l.words (l.w * l.h)) l.w l.h ≡ marked_rows_of (unpacked_of l.words (l.w * l.h)) l.w l.y)
