-- `resize::resize_row` puts pixel after pixel: the run at `at` grows by one a turn. Assumes nothing.
use mathlib.Core.Path.{◌≡◌}
use mathlib.Core.List.{List}
use Prim.Native.Nat.{ℕ, ◌<◌}
use native.Mathlib.Omega.{arith}
use lib.ListN.{length, get_or}
use lib.Ieee.{Float, nan}
use Rattle.lists.specs.Lists.{tab}
use Rattle.lists.proofs.Fill.{fill_none, fill_more}
use Rattle.lists.proofs.Grow.{get_d_tab}
use Rattle.resize.specs.Resize.{tap_of, bilinear_of}
use Rattle.resize.specs.declared.Tap.{Tap}
use Rattle.resize.proofs.Inside.{tap_inside}
use Rattle.resize.proofs.resize_row.Goals as goal

-- what a read past the end stands for
abbrev no_tap : Tap
no_tap = record { first = 0; next = 0; weight = nan }

-- the tap of column x, from what is stored
tap_is : (src n x : ℕ) (taps : List Tap) → taps ≡ tab n (tap_of src n) → x < n → get_or taps x no_tap ≡ tap_of src n x
tap_is src n x taps e h = rw e (get_d_tab n x (tap_of src n) no_tap h)

pub loop-x-init : goal.loop-x-init
loop-x-init c = fill_none _ _ _

pub sample-requires : goal.sample-requires
sample-requires c =
    let a = c.args in
    let is = tap_is a.src_w (length a.taps.now) c.loop-x.x a.taps.now c.requires.3 c.loop-x-test.true in
    let inside = tap_inside a.src_w (length a.taps.now) c.loop-x.x c.requires.0 c.requires.1 c.requires.2 c.loop-x-test.true in
    (rw is inside.0, rw is inside.1, c.requires.4, c.requires.5)

pub loop-x-preserved : goal.loop-x-preserved
loop-x-preserved c =
    let a = c.args in
    let f : ℕ → Float = λ k. bilinear_of a.src.now a.src_w (tap_of a.src_w (length a.taps.now) k) a.ty in
    let is = tap_is a.src_w (length a.taps.now) c.loop-x.x a.taps.now c.requires.3 c.loop-x-test.true in
    rw c.loop-x.invariant (fill_more a.out.now a.at f c.loop-x.x c.sample.result (omega arith) (rw is at c.sample.ensures))
