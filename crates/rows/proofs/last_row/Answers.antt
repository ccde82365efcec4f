-- `rows::last_row` meets its contract. The loop's invariant: the rows from y on hold no mark. Assumes nothing.
use Prim.Native.Nat.{◌+◌, ◌-◌, ◌*◌, ◌<◌}
use mathlib.Core.Path.{◌≡◌, refl, sym, ap, ◌∙◌}
use native.Mathlib.Omega.{arith}
use Rattle.lists.proofs.Fill.{row_in}
use Rattle.bits.specs.Words.{unpacked_of}
use Rattle.rows.specs.Rows.{marked_rows_of}
use Rattle.rows.proofs.Turns.{rows_passed, rows_first, rows_last}
use Rattle.rows.proofs.last_row.Goals as goal

pub loop-y-init : goal.loop-y-init
loop-y-init c = (omega arith, refl)

pub row_marked-requires : goal.row_marked-requires
row_marked-requires c =
    let a = c.args in
    let y = c.loop-y.y - 1 in
    let l : y < a.h = omega arith in
    (c.requires.0.w_most, omega (arith, c.requires.0.h_most), omega (arith, row_in a.w y a.h l, c.requires.1))

pub returns-then-row_marked : goal.returns-then-row_marked
returns-then-row_marked c =
    let a = c.args in
    let y = c.loop-y.y - 1 in
    let ms = unpacked_of a.words.now (a.w * a.h) in
    let l : y < a.h = omega arith in
    let q : c.loop-y.y ≡ y + 1 = omega arith in
    let told = c.row_marked.ensures (a.w * a.h) (row_in a.w y a.h l) in
    c.loop-y.invariant.1
    ∙ ap (marked_rows_of ms a.w) q
    ∙ rows_last ms a.w a.first c.requires.3 c.requires.4 y (omega arith) (sym told ∙ c.if-row_marked.true)

pub loop-y-preserved : goal.loop-y-preserved
loop-y-preserved c =
    let a = c.args in
    let y = c.loop-y.y - 1 in
    let ms = unpacked_of a.words.now (a.w * a.h) in
    let l : y < a.h = omega arith in
    let q : c.loop-y.y ≡ y + 1 = omega arith in
    let told = c.row_marked.ensures (a.w * a.h) (row_in a.w y a.h l) in
    (omega arith, c.loop-y.invariant.1 ∙ ap (marked_rows_of ms a.w) q ∙ rows_passed ms a.w y (sym told ∙ c.if-row_marked.false))

pub returns : goal.returns
returns c =
    let a = c.args in
    let ms = unpacked_of a.words.now (a.w * a.h) in
    let q : c.loop-y.y ≡ a.first + 1 = omega arith in
    c.loop-y.invariant.1 ∙ ap (marked_rows_of ms a.w) q ∙ rows_first ms a.w a.first c.requires.3 c.requires.4
