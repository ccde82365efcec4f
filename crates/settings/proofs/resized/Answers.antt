-- `settings::resized` scales both sides where there is an edge and the longer side exceeds it, and else keeps them. Assumes nothing.
use mathlib.Core.Path.{◌≡◌, sym}
use Prim.Native.Nat.{max}
use native.Mathlib.Omega.{arith}
use Rattle.settings.proofs.Resizing.{resized_off, resized_kept, resized_scaled}
use Rattle.settings.proofs.resized.Goals.{then-w-h, else-w-h}
use Rattle.settings.proofs.resized.Goals as goal

pub side-requires : goal.side-requires
side-requires c =
    let long_is : c.if-w-h.long ≡ max c.args.w c.args.h =
    elim c.if-w-h.branch [ then-w-h w ↦ omega arith | else-w-h w ↦ omega arith ] in
    omega (arith, long_is)

pub side-requires-then-long-edge : goal.side-requires-then-long-edge
side-requires-then-long-edge c =
    let long_is : c.if-w-h.long ≡ max c.args.w c.args.h =
    elim c.if-w-h.branch [ then-w-h w ↦ omega arith | else-w-h w ↦ omega arith ] in
    omega (arith, long_is)

pub returns-then-long-edge : goal.returns-then-long-edge
returns-then-long-edge c =
    let long_is : c.if-w-h.long ≡ max c.args.w c.args.h =
    elim c.if-w-h.branch [ then-w-h w ↦ omega arith | else-w-h w ↦ omega arith ] in
    let s = c.args in
    let long = long_is in
    let w = c.side.ensures in
    let h = c.side-then-long-edge.ensures in
    (rw (w.0, h.0, long) (sym (resized_scaled s.edge s.w s.h (omega arith) (omega arith))), record { w_least = omega arith; w_most = w.2; h_least = omega arith; h_most = h.2 })

pub returns-else-long-edge : goal.returns-else-long-edge
returns-else-long-edge c =
    let long_is : c.if-w-h.long ≡ max c.args.w c.args.h =
    elim c.if-w-h.branch [ then-w-h w ↦ omega arith | else-w-h w ↦ omega arith ] in
    (sym (resized_kept c.args.edge c.args.w c.args.h (omega arith) (omega (arith, long_is))), c.requires)

pub returns-else-edge-gt0 : goal.returns-else-edge-gt0
returns-else-edge-gt0 c = (sym (resized_off c.args.edge c.args.w c.args.h (omega arith)), c.requires)
