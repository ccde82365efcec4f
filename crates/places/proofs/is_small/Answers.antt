-- `places::is_small` meets its contract. Assumes nothing.
use mathlib.Core.Path.{sym, subst}
use lib.Dec.{T}
use Rattle.places.proofs.Finite.{small_is}
use Rattle.places.proofs.is_small.Goals as goal

pub returns-then-v : goal.returns-then-v
returns-then-v c = λ k. small_is c.args.v (subst T (sym c.if-v.true) tt) (subst T (sym k) tt)
