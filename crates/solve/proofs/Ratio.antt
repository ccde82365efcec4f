-- Lambda, test by test. Assumes nothing.
use Rattle.std.specs.Prelude.{Some, None}
use mathlib.Core.Path.{◌≡◌, sym, ◌∙◌}
use mathlib.Core.Bool.{true, false}
use lib.Ieee.{Float, le}
use lib.Ieee.Scale.{finite}
use Rattle.lists.proofs.Cases.{pick_true, pick_false}
use Rattle.floats.specs.F32.{◌⊖◌, ◌⊗◌, ◌⊘◌, 0f}
use Rattle.stats.specs.declared.Stats.{Stats}
use Rattle.solve.specs.Lambda.{lambda_of}

-- ---- lambda: the first test must fail and the other two pass
module _ (s : Stats) (image template : Float) where
  abbrev d : Float
  d = s.corr ⊖ template

  abbrev l : Float
  l = (s.img_norm ⊗ s.img_norm ⊖ image) ⊘ d

  pub not_above : le d 0f ≡ true → None ≡ lambda_of s image template
  unfolding lambda_of
  not_above e = sym (pick_true _ _ _ e)

  pub divisor_endless : le d 0f ≡ false → finite d ≡ false → None ≡ lambda_of s image template
  unfolding lambda_of
  divisor_endless e f = sym (pick_false _ _ _ e ∙ pick_false _ _ _ f)

  pub ratio_endless : le d 0f ≡ false → finite d ≡ true → finite l ≡ false → None ≡ lambda_of s image template
  unfolding lambda_of
  ratio_endless e f g = sym (pick_false _ _ _ e ∙ pick_true _ _ _ f ∙ pick_false _ _ _ g)

  pub ratio_stands : le d 0f ≡ false → finite d ≡ true → finite l ≡ true → Some l ≡ lambda_of s image template
  unfolding lambda_of
  ratio_stands e f g = sym (pick_false _ _ _ e ∙ pick_true _ _ _ f ∙ pick_true _ _ _ g)
