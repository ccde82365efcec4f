-- A NaN norm is not flat. Assumes nothing.
use mathlib.Core.Path.{◌≡◌, refl, sym}
use mathlib.Core.Bool.{false}
use lib.Ieee.{Float, nan, inf, fin, le, mul, div}
use lib.Ieee.Scale.{finite}
use Rattle.floats.specs.F32.{◌⊗◌, ◌⊘◌}
use Rattle.verdict.specs.Verdict.{tiny, NanIsNotFlat}
use Rattle.verdict.proofs.Ends.{rho_endless}

nan_below : le nan tiny ≡ false
unfolding le
nan_below = refl

over_nan : (x : Float) → finite (x ⊘ (nan ⊗ nan)) ≡ false
unfolding mul div
over_nan nan = refl
over_nan (inf s) = refl
over_nan (fin s m e) = refl

pub nan_is_not_flat : NanIsNotFlat
nan_is_not_flat s last eps e f =
    sym (rho_endless s last eps (rw e nan_below) (rw f nan_below) (rw (e, f) (over_nan s.corr)))
