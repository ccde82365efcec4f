-- `rows::marked_rows` meets its contract. The loop's invariant: no row above y holds a mark. Assumes nothing.
use Prim.Native.Nat.{◌*◌, ◌<◌}
use mathlib.Core.Path.{◌≡◌, sym, ◌∙◌}
use native.Mathlib.Omega.{arith}
use Rattle.lists.proofs.Fill.{row_in}
use Rattle.bits.specs.Words.{unpacked_of}
use Rattle.rows.proofs.Turns.{rows_start, rows_passed}
use Rattle.rows.proofs.marked_rows.Goals as goal

pub loop-y-init : goal.loop-y-init
loop-y-init c = rows_start _ _

pub row_marked-requires : goal.row_marked-requires
row_marked-requires c =
    let a = c.args in
    let y = c.loop-y.y in
    let l : y < a.h = omega arith in
    (c.requires.0.w_most, omega (arith, c.requires.0.h_most), omega (arith, row_in a.w y a.h l, c.requires.1))

pub last_row-last-requires : goal.last_row-last-requires
last_row-last-requires c =
    let a = c.args in
    let told = c.row_marked.ensures (a.w * a.h) (row_in a.w c.loop-y.y a.h (omega arith)) in
    (c.requires.0, c.requires.1, omega arith, c.loop-y.invariant, sym told ∙ c.if-row_marked.true)

pub returns-then-row_marked : goal.returns-then-row_marked
returns-then-row_marked c = sym c.last_row-last.ensures

pub loop-y-preserved : goal.loop-y-preserved
loop-y-preserved c =
    let a = c.args in
    let told = c.row_marked.ensures (a.w * a.h) (row_in a.w c.loop-y.y a.h (omega arith)) in
    rows_passed (unpacked_of a.words.now (a.w * a.h)) a.w c.loop-y.y (sym told ∙ c.if-row_marked.false) ∙ c.loop-y.invariant

pub returns : goal.returns
returns c =
    let q : c.loop-y.y ≡ c.args.h = omega arith in
    sym (rw q at c.loop-y.invariant)
