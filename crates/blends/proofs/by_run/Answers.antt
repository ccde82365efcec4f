-- `blends::by_run` meets its contract: the places follow one another, so the three rows are the pixels at them. Assumes nothing.
use Prim.Native.Nat.{ℕ, ◌+◌, ◌-◌, ◌≤◌, ◌<◌}
use mathlib.Core.Path.{◌≡◌}
use mathlib.Core.List.{List}
use native.Mathlib.Omega.{arith}
use lib.ListN.{get_or}
use Rattle.blends.specs.Reads.{breaks_of}
use Rattle.blends.proofs.Runs.{run_is, run_rows}
use Rattle.blends.proofs.by_run.Goals as goal

module _ (spots : List ℕ) (from to n w : ℕ) (some : from < to) (none : breaks_of spots from (to - from - 1) ≡ 0) where
  follow : (x : ℕ) → x < to - from → get_or spots (from + x) 0 ≡ get_or spots from 0 + x
  follow x h = run_is spots from (to - from - 1) none x (omega arith)

  -- the four pixels of the last one, too, lie within the image of n
  inside : ((x : ℕ) → from ≤ x → x < to → get_or spots x 0 + w + 1 < n) → get_or spots from 0 + (to - from) + w < n
  inside r =
      let last : from + (to - from - 1) ≡ to - 1 = omega arith in
      omega (arith, rw last at (follow (to - from - 1) (omega arith)), r (to - 1) (omega arith) (omega arith))

pub blend_row-requires : goal.blend_row-requires
blend_row-requires c =
    let a = c.args in
    let r = c.requires in
    (omega (arith, inside a.spots.now a.from a.to a.n a.w r.0 r.1 r.2.6), omega arith, omega arith, omega arith)

pub blend_row-requires-2 : goal.blend_row-requires-2
blend_row-requires-2 c =
    let a = c.args in
    let r = c.requires in
    (omega (arith, inside a.spots.now a.from a.to a.n a.w r.0 r.1 r.2.6), omega (arith, c.blend_row.auto.part), omega arith, omega arith)

pub blend_row-requires-3 : goal.blend_row-requires-3
blend_row-requires-3 c =
    let a = c.args in
    let r = c.requires in
    (omega (arith, inside a.spots.now a.from a.to a.n a.w r.0 r.1 r.2.6), omega (arith, c.blend_row.auto.part, c.blend_row-2.auto.part), omega arith, omega arith)

pub returns : goal.returns
returns c =
    let a = c.args in
    let r = c.requires in
    run_rows a.n a.w a.at a.from (a.to - a.from) a.spots.now a.across.now a.down.now a.part.now (get_or a.spots.now a.from 0)
    (follow a.spots.now a.from a.to a.n a.w r.0 r.1) (inside a.spots.now a.from a.to a.n a.w r.0 r.1 r.2.6) (omega arith) _ _ _ c.blend_row.ensures c.blend_row-2.ensures c.blend_row-3.ensures
