-- The same of any call of warp_three_inverse_map that its contract admits, for each of its three images. Assumes nothing.
use Prim.Native.Nat.{ℕ, zero, suc, ◌+◌, ◌*◌, ◌≤◌, ◌<◌}
use mathlib.Core.Path.{◌≡◌, sym, ap, ◌∙◌, subst, subst₂}
use mathlib.Core.List.{List, [], ◌∷◌}
use native.Mathlib.Omega.{arith}
use lib.IntN.{ℤ}
use lib.ListN.{length}
use lib.Ieee.{Float}
use Rattle.lists.specs.Lists.{image}
use Rattle.lists.specs.Marked.{words_for}
use Rattle.lists.specs.Premises.{InRange}
use Rattle.lists.proofs.Sets.{Sets, set_all, Fits, image_later}
use Rattle.pose.specs.Pose.{affine_from_theta_tx_ty}
use Rattle.pose.specs.declared.Map.{Map}
use Rattle.pose.specs.declared.Pose.{Pose}
use Rattle.bits.specs.Words.{unpacked_of}
use Rattle.warp.specs.Warp.{warp_of, Warped}
use Rattle.warp.specs.declared.Found.{Found}
use Rattle.warp.proofs.Sizes.{length_warp}
use Rattle.warp.proofs.Marks.{front}
use Rattle.moves.specs.Moves.{WholeMove, AllFinite, MovedBy}
use Rattle.moves.specs.Calls as call
use Rattle.moves.proofs.Moves.{move_is_exact}

-- ---- what the contract sets

module _ (map : Map) (w h : ℕ) (xs : List Float) (fits : 6 * (w * h) ≤ length xs) where
  abbrev warped : ℕ → List Float
  warped k = warp_of (image (w * h) k xs) map w h

  abbrev sets : Sets Float
  sets = (5, warped 2) ∷ ((4, warped 1) ∷ ((3, warped 0) ∷ []))

  all_fit : Fits (w * h) (length xs) sets
  all_fit = (length_warp _ _ _ _, omega arith, (length_warp _ _ _ _, omega arith, (length_warp _ _ _ _, omega arith, tt)))

  image_is : (k : ℕ) → k < 3 → image (w * h) (3 + k) (set_all (w * h) sets xs) ≡ warped k
  image_is zero l = image_later (w * h) xs ((5, warped 2) ∷ ((4, warped 1) ∷ [])) (3, warped 0) [] all_fit ((λ e. omega arith), ((λ e. omega arith), tt))
  image_is (suc zero) l = image_later (w * h) xs ((5, warped 2) ∷ []) (4, warped 1) ((3, warped 0) ∷ []) all_fit ((λ e. omega arith), tt)
  image_is (suc (suc zero)) l = image_later (w * h) xs [] (5, warped 2) ((4, warped 1) ∷ ((3, warped 0) ∷ [])) all_fit tt
  image_is (suc (suc (suc k))) l = absurd (omega arith)

-- what the contract says of a warp by such a map
images_moved : (map : Map) (w h : ℕ) (xs : List Float) (ws : List ℕ) (xs' : List Float) (ws' : List ℕ) (r : Found) (k : ℕ) (p : Pose) (tx ty : ℤ) → InRange w h → 6 * (w * h) ≤ length xs → words_for (w * h) ≤ length ws →
    map ≡ affine_from_theta_tx_ty p → WholeMove p tx ty → k < 3 → AllFinite (image (w * h) k xs) (w * h) → Warped map w h xs ws xs' ws' r → MovedBy tx ty w h (image (w * h) k xs) (image (w * h) (3 + k) xs') (unpacked_of ws' (w * h))
images_moved map w h xs ws xs' ws' r k p tx ty range fits room is m l all o =
    subst₂ (λ (out : List Float) (ms : List ℕ). MovedBy tx ty w h (image (w * h) k xs) out ms)
    (sym (ap (image (w * h) (3 + k)) o.images ∙ image_is map w h xs fits k l))
    (sym (front map w h ws ws' room o.marked))
    (rw is (move_is_exact w h (image (w * h) k xs) p tx ty range all m))

pub warp_moves_exactly : call.WarpMovesExactly
warp_moves_exactly c p tx ty k asked is m l all =
    let w = call.w c in
    let h = call.h c in
    subst (λ (j : ℕ). MovedBy tx ty w h (image (w * h) k (call.part c)) (image (w * h) j (call.part' c)) (unpacked_of (call.marks' c) (w * h))) (omega arith)
    (images_moved _ _ _ _ _ _ _ _ k p tx ty asked.0 asked.1 asked.2 is m (omega arith) all c.admitted)
