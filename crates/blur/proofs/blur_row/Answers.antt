-- `blur::blur_row` meets its contract. The loop's invariant: the row holds the first k taps. Assumes nothing.
use mathlib.Core.Path.{◌≡◌, ap, ◌∙◌}
use mathlib.Core.List.{List}
use Prim.Native.Nat.{◌+◌, ◌*◌}
use native.Mathlib.Omega.{arith}
use lib.ListN.{get_or}
use lib.Ieee.{Float, nan}
use Rattle.blur.specs.Pass.{added_of, spot_of}
use Rattle.blur.proofs.Taps.{row, taps_none, taps_more, taps_end}
use Rattle.blur.proofs.blur_row.Goals as goal

pub loop-k-init : goal.loop-k-init
loop-k-init c =
    let a = c.args in
    taps_none a.along a.ks.now a.ksize a.w a.h a.y a.part.now (a.w * a.h + a.y * a.w) (omega arith) c.requires.6 _ c.fill_floats.ensures

pub loop-k-preserved : goal.loop-k-preserved
loop-k-preserved c =
    let a = c.args in
    let k = c.loop-k.k in
    let dst = a.w * a.h + a.y * a.w in
    let ps = c.fill_floats.new.part in
    let size = c.fill_floats.auto.part in
    c.add_tap.ensures
    ∙ ap (λ (z : List Float). added_of z dst a.w (λ x. spot_of a.along a.ksize a.w a.h x a.y k) (get_or a.ks.now k nan)) c.loop-k.invariant
    ∙ taps_more a.along a.ks.now a.ksize a.w a.h a.y ps dst (omega arith) (omega (arith, c.requires.6)) c.requires.2 k

pub returns : goal.returns
returns c =
    let a = c.args in
    let end : c.loop-k.k ≡ a.ksize = omega arith in
    c.loop-k.invariant
    ∙ ap (row a.along a.ks.now a.ksize a.w a.h a.y (a.w * a.h + a.y * a.w) c.fill_floats.new.part) end
    ∙ taps_end a.along a.ks.now a.ksize a.w a.h a.y a.part.now (a.w * a.h + a.y * a.w) (omega arith) c.requires.6 _ c.fill_floats.ensures a.ksize
