-- `rows::row_marked` meets its contract: the row's next stretch of marked pixels begins within it, or there is none. Assumes nothing.
use Prim.Native.Nat.{◌+◌, ◌*◌, ◌≤◌}
use mathlib.Core.Path.{◌≡◌}
use native.Mathlib.Nat.{mul-le-mul}
use native.Mathlib.Omega.{arith}
use Rattle.rows.proofs.Turns.{row_told}
use Rattle.rows.proofs.row_marked.Goals as goal

pub overflow_mul-from : goal.overflow_mul-from
overflow_mul-from c =
    let few : c.args.y * c.args.w + c.args.w ≤ 16777216 =
    let e : (c.args.y + 1) * c.args.w ≡ c.args.y * c.args.w + c.args.w = omega arith in
    rw e at (mul-le-mul {n₁ = c.args.y + 1} {n₂ = 4096} (omega (arith, c.requires.1)) c.requires.0) in
    omega (arith, few)

pub overflow_add-to : goal.overflow_add-to
overflow_add-to c =
    let few : c.args.y * c.args.w + c.args.w ≤ 16777216 =
    let e : (c.args.y + 1) * c.args.w ≡ c.args.y * c.args.w + c.args.w = omega arith in
    rw e at (mul-le-mul {n₁ = c.args.y + 1} {n₂ = 4096} (omega (arith, c.requires.1)) c.requires.0) in
    omega (arith, few)

pub next_stretch-r-requires : goal.next_stretch-r-requires
next_stretch-r-requires c =
    let few : c.args.y * c.args.w + c.args.w ≤ 16777216 =
    let e : (c.args.y + 1) * c.args.w ≡ c.args.y * c.args.w + c.args.w = omega arith in
    rw e at (mul-le-mul {n₁ = c.args.y + 1} {n₂ = 4096} (omega (arith, c.requires.1)) c.requires.0) in
    (omega arith, c.requires.2, few)

pub returns : goal.returns
returns c =
    let a = c.args in
    λ n l. row_told a.words.now n a.w a.y l c.next_stretch-r.result c.next_stretch-r.ensures
