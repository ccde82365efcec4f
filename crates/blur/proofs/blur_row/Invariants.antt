-- `blur::blur_row` meets its contract. The loop's invariant: the row holds the first k taps. Assumes nothing.
use mathlib.Core.Path.{◌≡◌}
use Rattle.blur.proofs.Taps.{row}
use Rattle.blur.proofs.blur_row.Given as goal

abbrev pub invariant-loop-k : goal.invariant-loop-k
invariant-loop-k l = l.part ≡ row l.along l.ks l.ksize l.w l.h l.y l.dst l.initial.part l.k
