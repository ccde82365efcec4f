-- The pose in original pixels, by its two tests. Assumes nothing.
use Rattle.std.specs.Prelude.{Ok, Err}
use mathlib.Core.Path.{◌≡◌, sym, ◌∙◌}
use mathlib.Core.Bool.{true, false}
use lib.Ieee.{Float}
use lib.Ieee.Scale.{finite}
use Rattle.lists.proofs.Cases.{pick_true, pick_false}
use Rattle.floats.specs.F32.{◌⊘◌}
use Rattle.pose.specs.declared.Pose.{Pose}
use Rattle.refusals.specs.declared.Refusal.TheVariants.{PoseLost}
use Rattle.pose.specs.Pose.{unscaled_of}

module _ (sx sy : Float) (p : Pose) (rho : Float) where
  abbrev tx : Float
  tx = p.tx ⊘ sx

  abbrev ty : Float
  ty = p.ty ⊘ sy

  pub first_endless : finite tx ≡ false → Err PoseLost ≡ unscaled_of sx sy p rho
  unfolding unscaled_of
  first_endless e = sym (pick_false (finite tx) _ _ e)

  pub second_endless : finite tx ≡ true → finite ty ≡ false → Err PoseLost ≡ unscaled_of sx sy p rho
  unfolding unscaled_of
  second_endless e f = sym (pick_true (finite tx) _ _ e ∙ pick_false (finite ty) _ _ f)

  pub stands : finite tx ≡ true → finite ty ≡ true → Ok (record { theta = p.theta; tx = tx; ty = ty; rho = rho }) ≡ unscaled_of sx sy p rho
  unfolding unscaled_of
  stands e f = sym (pick_true (finite tx) _ _ e ∙ pick_true (finite ty) _ _ f)
