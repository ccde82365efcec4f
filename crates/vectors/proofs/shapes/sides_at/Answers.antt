-- `vectors::shapes::sides_at` meets its contract. Assumes nothing.
use Rattle.std.proofs.Common.{rules, refl}
use Rattle.vectors.proofs.Sides.{no_shape_left, no_shape_right, no_shape_large, fit}
use Rattle.vectors.proofs.shapes.sides_at.Goals as goal

pub returns-in_err-w : goal.returns-in_err-w
returns-in_err-w c = search (rules, no_shape_left)

pub returns-in_err-h : goal.returns-in_err-h
returns-in_err-h c = search (rules, no_shape_right)

pub returns-then-n-gt1024 : goal.returns-then-n-gt1024
returns-then-n-gt1024 c = no_shape_large _ _ c.in_ok-w.ensures c.in_ok-h.ensures c.if-n-gt1024.true

pub returns : goal.returns
returns c = fit _ _ _ c.in_ok-w.ensures c.in_ok-h.ensures refl c.if-n-gt1024.false
