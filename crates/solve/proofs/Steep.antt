-- The part with j0 in its image 5, in the rows that hold a mark: nothing else has changed, and the second half of a pass ends as if j0 stood there whole. Assumes nothing.
use Rattle.std.specs.Prelude.{Some}
use Prim.Native.Nat.{ℕ, ◌+◌, ◌*◌, ◌≤◌, ◌<◌}
use mathlib.Core.Path.{◌≡◌, refl, sym, ap, ◌∙◌}
use mathlib.Core.Bool.{true≢false}
use mathlib.Core.List.{List}
use mathlib.Core.Logic.{inl, inr}
use native.Mathlib.Omega.{arith}
use lib.ListN.{length, take, drop, get_or, length-take, length-drop}
use lib.Ieee.{Float, nan}
use Rattle.lists.specs.Lists.{put, image, set_image}
use Rattle.lists.proofs.Put.{length_put, take_put, drop_put}
use Rattle.lists.proofs.Images.{image_set_other}
use Rattle.bits.proofs.Scan.{lt_or_le}
use Rattle.rows.specs.Rows.{marked_rows_of}
use Rattle.rows.specs.declared.Rows.{Rows}
use Rattle.rows.specs.Between.{rows_in, pixels_of, Between}
use Rattle.rows.proofs.Between.{rows_order, span_between}
use Rattle.rows.proofs.InPlace.{length_rows_in, rows_within, get_d_rows_in}
use Rattle.stats.specs.Stats.{AgreeAt}
use Rattle.stats.specs.declared.Stats.{Stats}
use Rattle.stats.proofs.Rest.{own_image}
use Rattle.pose.specs.declared.Pose.{Pose}
use Rattle.sums.specs.Sums.{steep_of}
use Rattle.sums.proofs.Rows.{length_steep}
use Rattle.solve.specs.Solve.{Ended, solve_of}
use Rattle.solve.proofs.Agree.{solve_agree}

module _ (w h first last : ℕ) (order : first ≤ last) (inside : last < h) (theta : Float) (gx gy xs ys : List Float) (is_ys : ys ≡ put xs (5 * (w * h) + first * w) (rows_in first last w (steep_of w h theta gx gy))) (fits : 6 * (w * h) ≤ length xs) where
  abbrev n : ℕ
  n = w * h

  abbrev j0 : List Float
  j0 = steep_of w h theta gx gy

  room : 5 * n + first * w + length (rows_in first last w j0) ≤ 6 * n
  room = omega (arith, length_rows_in first last w h order inside j0 (length_steep w h theta gx gy), rows_within first last w h order inside)

  same_size : length ys ≡ length xs
  same_size = ap length is_ys ∙ length_put xs (5 * n + first * w) (rows_in first last w j0) (omega (arith, room))

  -- nothing but the image 5 has changed
  pub rest_kept : ys ≡ set_image n 5 (image n 5 ys) xs
  rest_kept = own_image n 5 xs ys (omega arith) same_size
      (ap (take (5 * n)) is_ys ∙ take_put xs (5 * n + first * w) (rows_in first last w j0) (omega (arith, room)) (5 * n) (omega arith))
      (ap (drop (5 * n + n)) is_ys ∙ drop_put xs (5 * n + first * w) (rows_in first last w j0) (omega (arith, room)) (5 * n + n) (omega (arith, room)))

  image_kept : (k : ℕ) → (k ≡ 5 → ⊥) → image n k ys ≡ image n k xs
  unfolding image
  image_kept k d = ap (image n k) rest_kept ∙ image_set_other n k 5 xs (image n 5 ys) (simp (length-take, length-drop) (omega (arith, same_size))) (omega arith) d

  module _ (ms : List ℕ) (o : Between ms n (first * w) ((last + 1) * w)) where
    j0_there : AgreeAt ms n (image n 5 ys) j0
    j0_there i l m =
        elim (lt_or_le i (first * w)) [
          | inl q ↦ absurd (true≢false (sym m ∙ o.before i q))
          | inr q ↦ elim (lt_or_le i ((last + 1) * w)) [
            | inl r ↦ ap (λ (z : List Float). get_or (image n 5 z) i nan) is_ys ∙ get_d_rows_in first last w h order inside j0 (length_steep w h theta gx gy) 5 xs nan (omega arith) i q r
            | inr r ↦ absurd (true≢false (sym m ∙ o.behind i r l))
          ]
        ]

    pub solve_back : (p : Pose) (s : Stats) (rho : Float) →
        solve_of ms n p (image n 5 ys) (image n 0 ys) (image n 1 ys) (image n 3 ys) (image n 4 ys) s rho ≡ solve_of ms n p j0 (image n 0 xs) (image n 1 xs) (image n 3 xs) (image n 4 xs) s rho
    solve_back p s rho =
        rw (image_kept 0 (omega arith), image_kept 1 (omega arith), image_kept 3 (omega arith), image_kept 4 (omega arith))
        (solve_agree ms n p (image n 5 ys) j0 (image n 0 xs) (image n 1 xs) (image n 3 xs) (image n 3 xs) (image n 4 xs) (image n 4 xs) s rho j0_there (λ i l m. refl) (λ i l m. refl))

-- both, by the rows that were found: what the second half ends with
module _ (ms : List ℕ) (w h : ℕ) (rows : Rows) (found : marked_rows_of ms w h ≡ Some rows) (theta : Float) (xs ys : List Float) (is_ys : ys ≡ put xs (5 * (w * h) + rows.first * w) (rows_in rows.first rows.last w (steep_of w h theta (image (w * h) 0 xs) (image (w * h) 1 xs)))) (fits : 6 * (w * h) ≤ length xs) where
  pub steep_end : (p : Pose) (s : Stats) (rho : Float) (step : Ended) →
      let n = w * h in
      step ≡ solve_of ms n p (image n 5 ys) (image n 0 ys) (image n 1 ys) (image n 3 ys) (image n 4 ys) s rho →
      (ys ≡ set_image n 5 (image n 5 ys) xs)
      × (step ≡ solve_of ms n p (steep_of w h theta (image n 0 xs) (image n 1 xs)) (image n 0 xs) (image n 1 xs) (image n 3 xs) (image n 4 xs) s rho)
  unfolding pixels_of
  steep_end p s rho step e =
      let r = rows_order ms w h rows found in
      let between = span_between ms w h rows found (pixels_of rows w) refl in (
        rest_kept w h rows.first rows.last r.0 r.1 theta _ _ xs ys is_ys fits,
        e ∙ solve_back w h rows.first rows.last r.0 r.1 theta _ _ xs ys is_ys fits ms between p s rho,
      )
