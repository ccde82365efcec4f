-- `root::root_bits` meets its contract. Assumes nothing.
use mathlib.Core.Path.{◌≡◌, subst}
use Prim.Native.Nat.{ℕ, ◌*◌, ◌%◌, ◌^◌, ◌≤◌, ◌<◌}
use native.Mathlib.Nat.{lt_of_le_of_lt}
use native.Mathlib.Omega.{arith}
use lib.Dec.{lit<, lit≤}
use lib.Pow.{shl_exact}
use lib.Ieee.{binary32, of_bits}
use Rattle.floats.specs.Units.{units_at}
use Rattle.root.specs.Root.{sqrt_of}
use Rattle.root.proofs.Squares.{IsRoot}
use Rattle.root.proofs.Scaled.{wide, wide_le}
use Rattle.root.proofs.Whole.{pattern_root}
use Rattle.root.proofs.root_bits.Goals as goal

-- shifted to its place, m loses no digit
widened : (m : ℕ) → m ≤ 33554430 → (m * 2 ^ 25) % 2 ^ 64 ≡ wide m
widened m h = shl_exact 25 25 64 (lt_of_le_of_lt h (lit< tt)) (lit≤ tt)

pub isqrt-t-requires : goal.isqrt-t-requires
isqrt-t-requires c =
    let n = c.normal_of-n.result in
    let s = c.normal_of-n.ensures in
    rw (widened n.m s.2) (lt_of_le_of_lt (wide_le (units_at c.args.b) n.m n.h s) (lit< tt))

pub returns : goal.returns
returns c =
    let i = c.isqrt-t.ensures in
    let n = c.normal_of-n.result in
    let s = c.normal_of-n.ensures in
    let e = widened n.m s.2 in
    let root : IsRoot (wide n.m) c.isqrt-t.result = (rw e at i.0, rw e at i.1) in
    subst (λ (r : ℕ). (r < 2139095040) × (of_bits binary32 r ≡ sqrt_of (of_bits binary32 c.args.b))) (omega arith)
    (pattern_root c.args.b n.m n.h c.isqrt-t.result c.requires.0 c.requires.1 s root)
