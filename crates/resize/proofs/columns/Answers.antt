-- `resize::columns` stores the taps one after another. Assumes nothing.
use mathlib.Core.Path.{sym}
use lib.ListN.{length}
use native.Mathlib.Omega.{arith}
use Rattle.lists.proofs.Fill.{front_turn}
use Rattle.lists.proofs.Grow.{tab_zero}
use Rattle.resize.specs.Resize.{tap_of}
use Rattle.resize.proofs.columns.Goals as goal

pub loop-x-init : goal.loop-x-init
loop-x-init c = sym (tab_zero _)

pub loop-x-preserved : goal.loop-x-preserved
loop-x-preserved c = front_turn c.loop-x.taps (tap_of c.args.src (length c.args.taps.now)) c.loop-x.x _ (omega arith) c.loop-x.invariant c.tap_at.ensures.0
