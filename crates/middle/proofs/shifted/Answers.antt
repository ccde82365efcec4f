-- `middle::shifted` meets its contract. Assumes nothing.
use Prim.Native.Nat.{◌^◌}
use native.Mathlib.Nat.{lt_of_le_of_lt, mod-le, mod-lt, le_of_lt}
use native.Mathlib.Omega.{arith}
use lib.Dec.{lit<}
use Rattle.middle.proofs.Digits.{from_low, from_mid, from_high, from_none, high_small, shifted_less}
use Rattle.middle.proofs.shifted.Goals as goal

pub returns-then-k-ge120 : goal.returns-then-k-ge120
returns-then-k-ge120 c =
    let p = c.args.p in
    let k = c.args.k in
    let few = c.requires.0 in
    let within = c.requires.1 in
    (from_high p k c.if-k-ge120.true few within, (lit< tt, lit< tt), lt_of_le_of_lt (mod-le _ (2 ^ 64)) (high_small p k few within))

pub returns-then-k-ge60 : goal.returns-then-k-ge60
returns-then-k-ge60 c =
    let p = c.args.p in
    let k = c.args.k in
    (from_mid p k c.if-k-ge60.true (le_of_lt c.if-k-ge120.false), (mod-lt _ (lit< tt), lit< tt), shifted_less p (2 ^ 55) _ (omega (arith, c.requires.0)))

pub returns : goal.returns
returns c =
    let p = c.args.p in
    let k = c.args.k in
    (from_none _ _ _ (from_low p k (le_of_lt c.if-k-ge60.false)), (shifted_less p (2 ^ 60) _ (omega (arith, c.requires.0)), mod-lt _ (lit< tt)), lit< tt)
