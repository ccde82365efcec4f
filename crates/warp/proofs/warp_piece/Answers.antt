-- `warp::warp_piece` meets its contract: by the places and marks that it has worked out, what it reads is the warped pixels. Assumes nothing.
use Prim.Native.Nat.{◌*◌, ◌+◌, ◌≤◌}
use native.Mathlib.Nat.{mul-le-mul}
use native.Mathlib.Omega.{arith}
use Rattle.lists.proofs.Fill.{row_in}
use Rattle.bits.specs.Words.{unpacked_of}
use Rattle.bits.specs.Packing.{Flags}
use Rattle.warp.specs.Rows.{Reach}
use Rattle.warp.proofs.Pieces.{piece_flags, piece_reach, piece_of}
use Rattle.warp.proofs.warp_piece.Goals as goal

pub overflow_mul-at : goal.overflow_mul-at
overflow_mul-at c =
    let row : let a = c.args in a.y * a.w + a.w ≤ a.w * a.h =
    let a = c.args in row_in a.w a.y a.h c.requires.1 in
    let few : let a = c.args in a.w * a.h ≤ 16777216 =
    mul-le-mul c.requires.0.w_most c.requires.0.h_most in
    omega (arith, row, few)

pub overflow_add-at : goal.overflow_add-at
overflow_add-at c =
    let row : let a = c.args in a.y * a.w + a.w ≤ a.w * a.h =
    let a = c.args in row_in a.w a.y a.h c.requires.1 in
    let few : let a = c.args in a.w * a.h ≤ 16777216 =
    mul-le-mul c.requires.0.w_most c.requires.0.h_most in
    omega (arith, row, few, c.requires.2)

pub pack-requires : goal.pack-requires
pack-requires c =
    let flags : let a = c.args in Flags c.places_row.new.flags (a.y * a.w + a.x) a.len =
    let a = c.args in piece_flags a.map a.w a.h a.x a.y a.len _ _ _ _ c.places_row.ensures (c.requires.1, c.requires.2) in
    let row : let a = c.args in a.y * a.w + a.w ≤ a.w * a.h =
    let a = c.args in row_in a.w a.y a.h c.requires.1 in
    let few : let a = c.args in a.w * a.h ≤ 16777216 =
    mul-le-mul c.requires.0.w_most c.requires.0.h_most in
    let a = c.args in
    (omega arith, omega (arith, row, c.requires.2, c.requires.4), omega (arith, row, few, c.requires.2), flags)

pub reads-requires : goal.reads-requires
reads-requires c =
    let reach : let a = c.args in Reach (a.w * a.h) a.w (a.y * a.w + a.x) a.len (unpacked_of c.pack.new.words (a.w * a.h)) c.places_row.new.spots =
    let a = c.args in
    piece_reach a.map a.w a.h a.x a.y a.len _ _ _ _ c.places_row.ensures (c.requires.1, c.requires.2) a.marks.now _ c.requires.4 c.requires.6 c.pack.ensures c.requires.0.w_most c.requires.0.h_most in
    let row : let a = c.args in a.y * a.w + a.w ≤ a.w * a.h =
    let a = c.args in row_in a.w a.y a.h c.requires.1 in
    let few : let a = c.args in a.w * a.h ≤ 16777216 =
    mul-le-mul c.requires.0.w_most c.requires.0.h_most in
    (omega (arith, row, c.requires.2), few, c.requires.3, omega (arith, c.requires.4, c.pack.auto.words), c.requires.5, reach)

pub returns : goal.returns
returns c =
    let a = c.args in
    piece_of a.map a.w a.h a.x a.y a.len _ _ _ _ c.places_row.ensures (c.requires.1, c.requires.2) a.marks.now _ c.requires.4 c.requires.6 c.pack.ensures a.part.now c.reads.new.part c.reads.ensures
