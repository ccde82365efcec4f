-- What follows lambda. Assumes nothing.
use Rattle.std.specs.Prelude.{Some, None, Option, Err}
use mathlib.Core.Path.{◌≡◌, sym, ap}
use lib.Ieee.{Float}
use Rattle.slide.specs.Slide.{on_lambda}
use Rattle.refusals.specs.declared.Refusal.TheVariants.{NoStep}
use Rattle.solve.specs.Solve.{Ended}

module _ (update : Float → Ended) (q : Option Float) where
  pub on_none : q ≡ None → Err NoStep ≡ on_lambda q update
  unfolding on_lambda
  on_none e = sym (ap (λ (x : Option Float). on_lambda x update) e)

  pub on_some : (l : Float) → q ≡ Some l → update l ≡ on_lambda q update
  unfolding on_lambda
  on_some l e = sym (ap (λ (x : Option Float). on_lambda x update) e)
