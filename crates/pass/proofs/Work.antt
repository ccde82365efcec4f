-- The work slice within a pass: after its warp, after its centring, and with j0 in it; what a pass reads there, and what stays. Assumes nothing.
use Prim.Native.Nat.{ℕ, ◌*◌, ◌≤◌}
use mathlib.Core.Path.{◌≡◌, refl, sym, ap, ◌∙◌, subst}
use mathlib.Core.List.{List, [], ◌∷◌}
use native.Mathlib.Omega.{arith}
use lib.ListN.{length}
use lib.Ieee.{Float}
use Rattle.lists.specs.Lists.{image, set_image}
use Rattle.lists.proofs.Sets.{Sets, set_all, Fits, image_spared, image_later}
use Rattle.pose.specs.declared.Map.{Map}
use Rattle.pose.specs.declared.Pose.{Pose}
use Rattle.places.specs.Point.{marks_of}
use Rattle.warp.specs.Warp.{warp_of}
use Rattle.stats.specs.Stats.{centred_of}
use Rattle.stats.specs.declared.Stats.{Stats}
use Rattle.sums.specs.Sums.{steep_of}
use Rattle.solve.specs.Solve.{Ended, solve_of}
use Rattle.pass.specs.Pass.{weighed_of}
use Rattle.pass.specs.Kept.{Kept, CentredWork}
use Rattle.warp.proofs.Sizes.{length_warp}
use Rattle.solve.proofs.Agree.{solve_agree}
use Rattle.pass.proofs.Parts.{length_image}
use Rattle.pass.proofs.Stays.{kept_sets, kept_kept}

-- ---- after the warp
module _ (map : Map) (w h : ℕ) (xs : List Float) (fits : 12 * (w * h) ≤ length xs) where
  abbrev warped : ℕ → List Float
  warped k = warp_of (image (w * h) k xs) map w h

  abbrev warps : Sets Float
  warps = (7, warped 4) ∷ ((6, warped 3) ∷ ((5, warped 2) ∷ []))

  warps_fit : Fits (w * h) (length xs) warps
  warps_fit = (length_warp _ _ _ _, omega arith, (length_warp _ _ _ _, omega arith, (length_warp _ _ _ _, omega arith, tt)))

  module _ (ys : List Float) (is_ys : ys ≡ set_image (w * h) 7 (warped 4) (set_image (w * h) 6 (warped 3) (set_image (w * h) 5 (warped 2) xs))) where
    pub kept_warp : Kept (w * h) xs ys
    kept_warp = rw is_ys (kept_sets (w * h) xs warps warps_fit (omega arith, omega arith, omega arith, (omega arith, omega arith, omega arith, (omega arith, omega arith, omega arith, tt))))

    warped_gy : image (w * h) 7 ys ≡ warped 4
    warped_gy = ap (image (w * h) 7) is_ys ∙ image_later (w * h) xs [] (7, warped 4) ((6, warped 3) ∷ ((5, warped 2) ∷ [])) warps_fit tt

    warped_gx : image (w * h) 6 ys ≡ warped 3
    warped_gx = ap (image (w * h) 6) is_ys ∙ image_later (w * h) xs ((7, warped 4) ∷ []) (6, warped 3) ((5, warped 2) ∷ []) warps_fit (omega arith, tt)

    warped_input : image (w * h) 5 ys ≡ warped 2
    warped_input = ap (image (w * h) 5) is_ys ∙ image_later (w * h) xs ((7, warped 4) ∷ ((6, warped 3) ∷ [])) (5, warped 2) [] warps_fit (omega arith, (omega arith, tt))

    -- what follows the warp, on the work after it
    pub weighed_there : (ms : List ℕ) → ms ≡ marks_of map w h → (eps : Float) (p : Pose) (last : Float) (r : Ended) →
        r ≡ weighed_of ms (image (w * h) 8 ys) (image (w * h) 5 ys) (image (w * h) 6 ys) (image (w * h) 7 ys) w h eps p last →
        r ≡ weighed_of (marks_of map w h) (image (w * h) 8 xs) (warped 2) (warped 3) (warped 4) w h eps p last
    weighed_there ms e eps p last r q = rw (e, kept_warp.template, warped_input, warped_gx, warped_gy) at q

-- ---- after the centring, and with j0
module _ (ms : List ℕ) (w h : ℕ) (xs : List Float) (fits : 12 * (w * h) ≤ length xs) (ys : List Float) (same : length ys ≡ length xs) (s : Stats) (o : CentredWork ms (w * h) xs ys s) where
  abbrev tz : List Float
  tz = centred_of ms (w * h) (image (w * h) 8 xs)

  abbrev iz : List Float
  iz = centred_of ms (w * h) (image (w * h) 5 xs)

  abbrev centres : Sets Float
  centres = (10, image (w * h) 10 ys) ∷ ((9, image (w * h) 9 ys) ∷ [])

  centres_fit : Fits (w * h) (length xs) centres
  centres_fit = (length_image (w * h) 10 ys (omega arith), omega arith, (length_image (w * h) 9 ys (omega arith), omega arith, tt))

  is_ys : ys ≡ set_all (w * h) centres xs
  is_ys = o.rest

  pub kept_centre : Kept (w * h) xs ys
  kept_centre = subst (Kept (w * h) xs) (sym is_ys) (kept_sets (w * h) xs centres centres_fit (omega arith, omega arith, omega arith, (omega arith, omega arith, omega arith, tt)))

  gx_there : image (w * h) 6 ys ≡ image (w * h) 6 xs
  gx_there = ap (image (w * h) 6) is_ys ∙ image_spared (w * h) xs 6 centres centres_fit (omega arith, (omega arith, tt))

  gy_there : image (w * h) 7 ys ≡ image (w * h) 7 xs
  gy_there = ap (image (w * h) 7) is_ys ∙ image_spared (w * h) xs 7 centres centres_fit (omega arith, (omega arith, tt))

  -- the second half on the work after the centring: only marked pixels of the centred images count
  pub solved_there : (p : Pose) (rho : Float) (r : Ended) →
      r ≡ solve_of ms (w * h) p (steep_of w h p.theta (image (w * h) 6 ys) (image (w * h) 7 ys)) (image (w * h) 6 ys) (image (w * h) 7 ys) (image (w * h) 9 ys) (image (w * h) 10 ys) s rho →
      r ≡ solve_of ms (w * h) p (steep_of w h p.theta (image (w * h) 6 xs) (image (w * h) 7 xs)) (image (w * h) 6 xs) (image (w * h) 7 xs) tz iz s rho
  solved_there p rho r q = rw (gx_there, gy_there) at q ∙ solve_agree ms (w * h) p _ _ _ _ _ _ _ _ s rho (λ i l m. refl) o.template o.warped

  pub kept_solve : (zs : List Float) → length zs ≡ length ys → zs ≡ set_image (w * h) 11 (image (w * h) 11 zs) ys → Kept (w * h) xs zs
  kept_solve zs size e =
      kept_kept kept_centre (subst (Kept (w * h) ys) (sym e) (kept_sets (w * h) ys ((11, image (w * h) 11 zs) ∷ []) (length_image (w * h) 11 zs (omega arith), omega arith, tt) (omega arith, omega arith, omega arith, tt)))
