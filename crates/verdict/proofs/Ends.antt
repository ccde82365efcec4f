-- The verdict by its tests in their order: one law for each end. Assumes nothing.
use Rattle.std.specs.Prelude.{Ok, Err}
use mathlib.Core.Path.{◌≡◌, sym, ◌∙◌}
use mathlib.Core.Bool.{true, false}
use lib.Ieee.{Float, le, lt}
use lib.Ieee.Scale.{finite}
use Rattle.lists.proofs.Cases.{pick_true, pick_false}
use Rattle.floats.specs.F32.{◌⊖◌}
use Rattle.numbers.specs.Numbers.{abs_of}
use Rattle.stats.specs.declared.Stats.{Stats}
use Rattle.verdict.specs.declared.Verdict.TheVariants.{Settled, Unsettled}
use Rattle.verdict.specs.Verdict.{tiny, stops, rho_of, verdict_of}
use Rattle.refusals.specs.declared.Refusal.TheVariants.{Flat, RhoNotFinite}

-- ---- the stop, after a last correlation that is finite
pub by_difference : (rho last eps d : Float) → finite last ≡ true → d ≡ abs_of (rho ⊖ last) → lt d eps ≡ stops rho last eps
by_difference rho last eps d f e = rw (e, f)

module _ (s : Stats) (last eps : Float) where
  pub flat_template : le s.tmp_norm tiny ≡ true → Err Flat ≡ verdict_of s last eps
  unfolding verdict_of
  flat_template e = sym (pick_true _ _ _ e)

  module _ (not_flat : le s.tmp_norm tiny ≡ false) where
    pub flat_image : le s.img_norm tiny ≡ true → Err Flat ≡ verdict_of s last eps
    unfolding verdict_of
    flat_image e = sym (pick_false _ _ _ not_flat ∙ pick_true _ _ _ e)

    module _ (neither : le s.img_norm tiny ≡ false) where
      pub rho_endless : finite (rho_of s) ≡ false → Err RhoNotFinite ≡ verdict_of s last eps
      unfolding verdict_of
      rho_endless e = sym (pick_false _ _ _ not_flat ∙ pick_false _ _ _ neither ∙ pick_false _ _ _ e)

      module _ (ends : finite (rho_of s) ≡ true) where
        pub rho_settled : stops (rho_of s) last eps ≡ true → Ok (Settled (rho_of s)) ≡ verdict_of s last eps
        unfolding verdict_of
        rho_settled e = sym (pick_false _ _ _ not_flat ∙ pick_false _ _ _ neither ∙ pick_true _ _ _ ends ∙ pick_true _ _ _ e)

        pub rho_open : stops (rho_of s) last eps ≡ false → Ok (Unsettled (rho_of s)) ≡ verdict_of s last eps
        unfolding verdict_of
        rho_open e = sym (pick_false _ _ _ not_flat ∙ pick_false _ _ _ neither ∙ pick_true _ _ _ ends ∙ pick_false _ _ _ e)
