-- `rows::marked_rows` meets its contract. The loop's invariant: no row above y holds a mark. Assumes nothing.
use Rattle.std.specs.Prelude.{None}
use Prim.Native.Nat.{◌*◌}
use mathlib.Core.Path.{◌≡◌}
use Rattle.bits.specs.Words.{unpacked_of}
use Rattle.rows.specs.Rows.{marked_rows_of}
use Rattle.rows.proofs.marked_rows.Given as goal

abbrev pub invariant-loop-y : goal.invariant-loop-y
invariant-loop-y l = marked_rows_of (unpacked_of l.words (l.w * l.h)) l.w l.y ≡ None
