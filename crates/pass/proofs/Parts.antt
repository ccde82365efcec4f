-- The part of the work from the image j on, lent and back: what a step reads there and sets there, as images of the whole work. Assumes nothing.
use Prim.Native.Nat.{ℕ, ◌+◌, ◌-◌, ◌*◌, ◌≤◌, ◌<◌}
use mathlib.Core.Path.{◌≡◌, ap, ◌∙◌}
use mathlib.Core.List.{List, [], ◌∷◌, ◌++◌}
use native.Mathlib.Omega.{arith}
use lib.ListN.{length, take, drop, length-take, length-drop}
use lib.Ieee.{Float}
use Rattle.lists.specs.Lists.{image, set_image}
use Rattle.lists.proofs.Fill.{row_in}
use Rattle.lists.proofs.Images.{part_image}
use Rattle.lists.proofs.Sets.{Sets, set_all, Fits, moved, image_later, part_sets}
use Rattle.pose.specs.declared.Map.{Map}
use Rattle.pose.specs.declared.Pose.{Pose}
use Rattle.warp.specs.Warp.{warp_of}
use Rattle.stats.specs.Stats.{Centred}
use Rattle.stats.specs.declared.Stats.{Stats}
use Rattle.sums.specs.Sums.{steep_of}
use Rattle.solve.specs.Solve.{Ended, solve_of}
use Rattle.pass.specs.Kept.{CentredWork}
use Rattle.warp.proofs.Sizes.{length_warp}

-- an image that lies within the list
pub length_image : {A : Type 0} (n k : ℕ) (xs : List A) → k * n + n ≤ length xs → length (image n k xs) ≡ n
unfolding image
length_image n k xs h = simp (length-take, length-drop) (omega arith)

module _ (n j : ℕ) (xs : List Float) where
  abbrev size : ℕ
  size = length xs - j * n

  abbrev part : List Float
  part = take size (drop (j * n) xs)

  abbrev whole : List Float → List Float
  whole ys = take (j * n) xs ++ (ys ++ drop size (drop (j * n) xs))

  module _ (fits : j * n + 6 * n ≤ length xs) where
    read : (i : ℕ) → i < 6 → image n i part ≡ image n (j + i) xs
    read i l = part_image n j i size xs (omega (arith, row_in n i 6 l))

    back : (ys : List Float) (ss : Sets Float) → Fits n size ss → ys ≡ set_all n ss part → whole ys ≡ set_all n (moved j ss) xs
    back ys ss f e = ap whole e ∙ part_sets n j size xs ss f (omega arith)

-- ---- the three steps of a pass
module _ (map : Map) (w h : ℕ) (xs : List Float) (fits : 12 * (w * h) ≤ length xs) where
  abbrev from_two : List Float
  from_two = part (w * h) 2 xs

  pub warp_back : (ys : List Float) → ys ≡ set_image (w * h) 5 (warp_of (image (w * h) 2 from_two) map w h) (set_image (w * h) 4 (warp_of (image (w * h) 1 from_two) map w h) (set_image (w * h) 3 (warp_of (image (w * h) 0 from_two) map w h) from_two)) →
      whole (w * h) 2 xs ys ≡ set_image (w * h) 7 (warp_of (image (w * h) 4 xs) map w h) (set_image (w * h) 6 (warp_of (image (w * h) 3 xs) map w h) (set_image (w * h) 5 (warp_of (image (w * h) 2 xs) map w h) xs))
  warp_back ys e =
      let f : 2 * (w * h) + 6 * (w * h) ≤ length xs = omega arith in
      back (w * h) 2 xs f ys
      ((5, warp_of (image (w * h) 4 xs) map w h) ∷ ((4, warp_of (image (w * h) 3 xs) map w h) ∷ ((3, warp_of (image (w * h) 2 xs) map w h) ∷ [])))
      (length_warp _ _ _ _, omega arith, (length_warp _ _ _ _, omega arith, (length_warp _ _ _ _, omega arith, tt)))
      (rw (read (w * h) 2 xs f 0 (omega arith), read (w * h) 2 xs f 1 (omega arith), read (w * h) 2 xs f 2 (omega arith)) at e)

module _ (ms : List ℕ) (n : ℕ) (xs : List Float) (fits : 12 * n ≤ length xs) where
  abbrev from_five : List Float
  from_five = part n 5 xs

  pub centre_back : (ys : List Float) (s : Stats) → length ys ≡ length from_five → Centred ms n from_five ys s → CentredWork ms n xs (whole n 5 xs ys) s
  centre_back ys s same o =
      let f : 5 * n + 6 * n ≤ length xs = omega arith in
      let size : 6 * n ≤ length ys = rw same (simp (length-take, length-drop) (omega arith)) in
      let T = image n 4 ys in
      let I = image n 5 ys in
      let sets : Sets Float = (10, I) ∷ ((9, T) ∷ []) in
      let fit : Fits n (length xs) sets = (length_image n 5 ys (omega arith), omega arith, (length_image n 4 ys (omega arith), omega arith, tt)) in
      let is : whole n 5 xs ys ≡ set_all n sets xs = back n 5 xs f ys ((5, I) ∷ ((4, T) ∷ [])) (fit.0, omega arith, (fit.2.0, omega arith, tt)) o.rest in
      let i_is : image n 10 (whole n 5 xs ys) ≡ I = ap (image n 10) is ∙ image_later n xs [] (10, I) ((9, T) ∷ []) fit tt in
      let t_is : image n 9 (whole n 5 xs ys) ≡ T = ap (image n 9) is ∙ image_later n xs ((10, I) ∷ []) (9, T) [] fit (omega arith, tt) in
      record {
        rest = rw (i_is, t_is) is;
        template = λ i l m. rw t_is (rw (read n 5 xs f 3 (omega arith)) at (o.template i l m));
        warped = λ i l m. rw i_is (rw (read n 5 xs f 0 (omega arith)) at (o.warped i l m));
        answer = rw (read n 5 xs f 0 (omega arith), read n 5 xs f 3 (omega arith)) at o.answer;
      }

module _ (ms : List ℕ) (w h : ℕ) (p : Pose) (s : Stats) (rho : Float) (xs : List Float) (fits : 12 * (w * h) ≤ length xs) where
  abbrev from_six : List Float
  from_six = part (w * h) 6 xs

  -- j0 of the work's images 6 and 7
  abbrev j0 : List Float
  j0 = steep_of w h p.theta (image (w * h) 6 xs) (image (w * h) 7 xs)

  pub steep_back : (ys : List Float) → length ys ≡ length from_six → ys ≡ set_image (w * h) 5 (image (w * h) 5 ys) from_six →
      whole (w * h) 6 xs ys ≡ set_image (w * h) 11 (image (w * h) 11 (whole (w * h) 6 xs ys)) xs
  steep_back ys same e =
      let n = w * h in
      let f : 6 * n + 6 * n ≤ length xs = omega arith in
      let size : 6 * n ≤ length ys = rw same (simp (length-take, length-drop) (omega arith)) in
      let J = image n 5 ys in
      let fit : length J ≡ n = length_image n 5 ys (omega arith) in
      let is : whole n 6 xs ys ≡ set_all n ((11, J) ∷ []) xs = back n 6 xs f ys ((5, J) ∷ []) (fit, omega arith, tt) e in
      let there : image n 11 (whole n 6 xs ys) ≡ J = ap (image n 11) is ∙ image_later n xs [] (11, J) [] (fit, omega arith, tt) tt in
      rw there is

  pub solve_back : (r : Ended) → r ≡ solve_of ms (w * h) p (steep_of w h p.theta (image (w * h) 0 from_six) (image (w * h) 1 from_six)) (image (w * h) 0 from_six) (image (w * h) 1 from_six) (image (w * h) 3 from_six) (image (w * h) 4 from_six) s rho →
      r ≡ solve_of ms (w * h) p j0 (image (w * h) 6 xs) (image (w * h) 7 xs) (image (w * h) 9 xs) (image (w * h) 10 xs) s rho
  solve_back r e =
      let f : 6 * (w * h) + 6 * (w * h) ≤ length xs = omega arith in
      rw (read (w * h) 6 xs f 0 (omega arith), read (w * h) 6 xs f 1 (omega arith), read (w * h) 6 xs f 3 (omega arith), read (w * h) 6 xs f 4 (omega arith)) at e
