-- `boundary::pixels` meets its contract: 0 for sides out of range, else the product of the sides after resizing. Assumes nothing.
use Prim.Native.Nat.{◌*◌}
use mathlib.Core.Path.{sym, ap, ◌∙◌}
use native.Mathlib.Nat.{mul-le-mul}
use borrow.Author.Tests.{lt-ltb, le-ltb, eq-eqb, ne_eqb}
use lib.Dec.{lit≤}
use Rattle.lists.proofs.Cases.{pick_true, pick_false}
use Rattle.lists.proofs.Every.{sides_fit}
use Rattle.settings.specs.declared.Sides.{Sides}
use Rattle.boundary.specs.Boundary.{pixel_count_of}
use Rattle.boundary.proofs.pixels.Goals as goal

pub returns-then-w-gt-MOST_SIDE : goal.returns-then-w-gt-MOST_SIDE
unfolding pixel_count_of
returns-then-w-gt-MOST_SIDE c = (sym (pick_true _ _ _ (lt-ltb _ _ c.if-w-gt-MOST_SIDE.true)), lit≤ tt)

pub returns-then-h-gt-MOST_SIDE : goal.returns-then-h-gt-MOST_SIDE
unfolding pixel_count_of
returns-then-h-gt-MOST_SIDE c = (sym (pick_false _ _ _ (le-ltb _ _ c.if-w-gt-MOST_SIDE.false) ∙ pick_true _ _ _ (lt-ltb _ _ c.if-h-gt-MOST_SIDE.true)), lit≤ tt)

pub returns-then-w-eq0 : goal.returns-then-w-eq0
unfolding pixel_count_of
returns-then-w-eq0 c = (sym (pick_false _ _ _ (le-ltb _ _ c.if-w-gt-MOST_SIDE.false) ∙ pick_false _ _ _ (le-ltb _ _ c.if-h-gt-MOST_SIDE.false) ∙ pick_true _ _ _ (eq-eqb _ _ c.if-w-eq0.true)), lit≤ tt)

pub returns-then-h-eq0 : goal.returns-then-h-eq0
unfolding pixel_count_of
returns-then-h-eq0 c = (
  sym
      (pick_false _ _ _ (le-ltb _ _ c.if-w-gt-MOST_SIDE.false)
      ∙ pick_false _ _ _ (le-ltb _ _ c.if-h-gt-MOST_SIDE.false)
      ∙ pick_false _ _ _ (ne_eqb _ _ c.if-w-eq0.false)
      ∙ pick_true _ _ _ (eq-eqb _ _ c.if-h-eq0.true)),
  lit≤ tt,
)

pub overflow_mul-result : goal.overflow_mul-result
overflow_mul-result c =
    let e = c.resized-s.ensures in
    sides_fit _ _ e.1.w_most e.1.h_most

pub returns : goal.returns
unfolding pixel_count_of
returns c =
    let e = c.resized-s.ensures in (
      ap (λ (s : Sides). s.w * s.h) e.0
          ∙ sym
          (pick_false _ _ _ (le-ltb _ _ c.if-w-gt-MOST_SIDE.false)
          ∙ pick_false _ _ _ (le-ltb _ _ c.if-h-gt-MOST_SIDE.false)
          ∙ pick_false _ _ _ (ne_eqb _ _ c.if-w-eq0.false)
          ∙ pick_false _ _ _ (ne_eqb _ _ c.if-h-eq0.false)),
      mul-le-mul e.1.w_most e.1.h_most,
    )
