-- The lengths told are the lengths that the alignment asks for. Assumes nothing.
use Prim.Native.Nat.{ℕ, ◌*◌}
use mathlib.Core.Path.{◌≡◌, refl, sym, ap, ◌∙◌}
use mathlib.Core.Bool.{Bool, true, false}
use native.Mathlib.Nat.{le_refl}
use native.Mathlib.Omega.{arith}
use borrow.Author.Tests.{le-ltb, ne_eqb, eqb-true}
use lib.Dec.{eqb}
use lib.Ieee.{Float}
use Rattle.lists.specs.Marked.{words_for}
use Rattle.lists.specs.Premises.{InRange}
use Rattle.lists.proofs.Cases.{pick_true, pick_false}
use Rattle.settings.specs.Settings.{edge_of, length_of}
use Rattle.settings.specs.Sides.{resized_of}
use Rattle.checks.specs.Checks.{size_of, room_of}
use Rattle.boundary.specs.Boundary.{config_of, pixel_count_of}
use Rattle.quayhollow.specs.Told.{LengthsServe}

module _ (eps : Float) (most filter edge : ℕ) where
  edge_told : edge_of (config_of eps most filter edge) ≡ edge
  unfolding config_of
  edge_told = by (eqb edge 0) refl
    where
      by : (b : Bool) → eqb edge 0 ≡ b → edge_of (config_of eps most filter edge) ≡ edge
      by true e = ap length_of (pick_true _ _ _ e) ∙ sym (eqb-true _ _ e)
      by false e = ap length_of (pick_false _ _ _ e)

  module _ (w h : ℕ) (sides : InRange w h) where
    pixels_told : size_of (config_of eps most filter edge) w h ≡ pixel_count_of w h edge
    unfolding size_of pixel_count_of
    pixels_told =
        ap (λ (e : ℕ). let s = resized_of e w h in s.w * s.h) edge_told
        ∙ sym
        (pick_false _ _ _ (le-ltb _ _ sides.w_most)
        ∙ pick_false _ _ _ (le-ltb _ _ sides.h_most)
        ∙ pick_false _ _ _ (ne_eqb w 0 (λ e. omega (arith, e)))
        ∙ pick_false _ _ _ (ne_eqb h 0 (λ e. omega (arith, e))))

    room_told : room_of (config_of eps most filter edge) w h (12 * pixel_count_of w h edge) (words_for (pixel_count_of w h edge)) ≡ 0
    unfolding room_of
    room_told = rw pixels_told (pick_false _ _ _ (le-ltb _ _ (le_refl (12 * pixel_count_of w h edge))) ∙ pick_false _ _ _ (le-ltb _ _ (le_refl (words_for (pixel_count_of w h edge)))))

pub lengths_serve : LengthsServe
lengths_serve eps most filter edge w h sides = record { pixels = pixels_told eps most filter edge w h sides; room = room_told eps most filter edge w h sides }
