-- Each number of a prepared frame is an f32. Assumes nothing.
use Prim.Native.Nat.{ℕ, ◌*◌, ◌<◌}
use mathlib.Core.Path.{◌≡◌}
use mathlib.Core.List.{List}
use lib.Dec.{T, leb}
use lib.IntN.{pos}
use lib.ListN.{length, get_or}
use lib.Ieee.{Float, binary32, nan, fits}
use lib.Ieee.Fits.{add-fits, of_int-fits}
use Rattle.lists.proofs.Cases.{pick_both}
use Rattle.lists.proofs.Grow.{get_d_tab, grid_all}
use Rattle.floats.proofs.Sums.{to_fits}
use Rattle.resize.specs.Resize.{lerp_of, bilinear_of, resize_of}
use Rattle.blur.specs.Blur.{columns_of, blur_of}
use Rattle.prepare.specs.Prepared.{gray_of, prepared_of}
use Rattle.prepare.proofs.Frames.{gray_at, scaled_either}

abbrev Fit : Float → Type 0
Fit x = T (fits binary32 x)

module _ (bytes : List ℕ) (w h tw th ksize : ℕ) (sized : length bytes ≡ w * h) (i : ℕ) (l : i < tw * th) where
  gray_fits : tw ≡ w → th ≡ h → Fit (get_or (gray_of bytes) i nan)
  unfolding gray_of
  gray_fits p q = rw (get_d_tab (length bytes) i (gray_at bytes) nan (rw (sized, ← p, ← q) l)) (of_int-fits binary32 (pos (get_or bytes i 0)))

  resized_fits : Fit (get_or (resize_of bytes w h tw th) i nan)
  unfolding resize_of bilinear_of lerp_of
  resized_fits = grid_all Fit tw th _ nan (λ x y p q. add-fits binary32 _ _) i l

  -- THE LAW
  pub prepared_fits : Fit (get_or (prepared_of bytes w h tw th ksize) i nan)
  unfolding prepared_of blur_of columns_of
  prepared_fits =
      pick_both (λ z. Fit (get_or z i nan)) (leb ksize 1) _ _ (scaled_either bytes w h tw th (λ z. Fit (get_or z i nan)) gray_fits resized_fits)
      (grid_all Fit tw th _ nan (λ x y p q. to_fits _ ksize) i l)
