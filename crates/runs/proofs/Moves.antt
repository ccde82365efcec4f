-- How a pass ends: with a refusal from 5 to 10, a finite correlation, or a pose to go on with, whose theta is from -2 to 2. Said of any set of numbers that has 5, 6 and 8 to 10,
-- and 7 or a finite correlation. Assumes nothing.
use Rattle.std.specs.Prelude.{None, Some, Option, Ok, Err, Result}
use Prim.Native.Nat.{ℕ}
use mathlib.Core.Path.{◌≡◌, sym, ◌∙◌, subst}
use mathlib.Core.Bool.{true, true≢false}
use mathlib.Core.List.{List}
use mathlib.Core.Logic.{◌⊎◌, inl, ⊎_elim}
use lib.Ieee.{Float}
use lib.Ieee.Scale.{finite}
use Rattle.lists.specs.Lists.{image}
use Rattle.lists.proofs.Cases.{either, pick_where, pick_both}
use Rattle.floats.specs.F32.{◌⊕◌}
use Rattle.floats.specs.Bound.{Within}
use Rattle.pose.specs.declared.Pose.{Pose}
use Rattle.pose.proofs.Tests.{pose_theta}
use Rattle.inverse.specs.declared.Vector3.{Vector3}
use Rattle.solve.specs.Solve.{Ended, moved_of, update_of, solve_of}
use Rattle.solve.specs.declared.Step.TheVariants.{Stop, Move}
use Rattle.stats.specs.declared.Stats.{Stats}
use Rattle.verdict.specs.Verdict.{verdict_of}
use Rattle.verdict.specs.Finite.{RhoFinite}
use Rattle.verdict.specs.declared.Verdict.{Verdict}
use Rattle.pass.specs.Pass.{onward, weighed_of, stats_at, pass_of}
use Rattle.pass.specs.Kept.{Kept}
use Rattle.inverse.specs.declared.Matrix3.{Matrix3}
use Rattle.refusals.specs.Refusals.{number}
use Rattle.refusals.specs.declared.Refusal.{Refusal}

-- the refusal is one of the numbers N, a correlation is finite, and the next pose can be gone on with
unfoldable pub Sound : (ℕ → Type 0) → Ended → Type 0
Sound N (Err r) = N (number r)
Sound N (Ok (Stop rho)) = finite rho ≡ true
Sound N (Ok (Move p rho)) = Within p.theta 2 1 × (finite rho ≡ true)

-- the numbers that a pass refuses with are among N. 7 stands apart: where it is not, rho must be finite (`SevenOrFinite`)
pub record Refusals (N : ℕ → Type 0) : Type 0 where
  pub five : N 5
  pub six : N 6
  pub eight : N 8
  pub nine : N 9
  pub ten : N 10

abbrev pub SevenOrFinite : (ℕ → Type 0) → Stats → Type 0
SevenOrFinite N s = N 7 ⊎ RhoFinite s

module _ (N : ℕ → Type 0) (among : Refusals N) where
  module _ (p : Pose) (rho : Float) (f : finite rho ≡ true) where
    moved_sound : (delta : Vector3) → Sound N (moved_of p delta rho)
    unfolding moved_of Sound
    moved_sound delta = pick_where (Sound N) _ _ _ (λ e. (pose_theta (p.theta ⊕ delta.0) (p.tx ⊕ delta.1) (p.ty ⊕ delta.2) e, f)) among.ten

    module _ (marks : List ℕ) (n : ℕ) (j0 j1 j2 tz iz : List Float) (s : Stats) where
      update_sound : (i : Option Matrix3) → Sound N (update_of marks n p j0 j1 j2 tz iz s rho i)
      unfolding update_of Sound
      update_sound None = among.eight
      update_sound (Some h) =
          pick_both (Sound N) _ _ _ among.nine
          (pick_both (Sound N) _ _ _ (pick_both (Sound N) _ _ _ (moved_sound _) among.nine) among.nine)

      solve_sound : Sound N (solve_of marks n p j0 j1 j2 tz iz s rho)
      unfolding solve_of
      solve_sound = update_sound _

  module _ (w h : ℕ) (eps : Float) (p : Pose) (last : Float) where
    onward_sound : (s : Stats) (update : Float → Ended) → SevenOrFinite N s → ((rho : Float) → finite rho ≡ true → Sound N (update rho)) → Sound N (onward (verdict_of s last eps) update)
    unfolding onward verdict_of Sound
    onward_sound s update seven u =
        let P : Result Verdict Refusal → Type 0 = λ v. Sound N (onward v update) in
        either P _ _ _ (λ e. among.six)
        (λ t. either P _ _ _ (λ e. among.six) (λ i. either P _ _ _ (λ f. pick_both P _ _ _ f (u _ f)) (λ e. ⊎_elim (λ n. n) (λ r. absurd (true≢false (sym (r.rho t i) ∙ e))) seven)))

    pub pass_sound : (template input gx gy : List Float) → SevenOrFinite N (stats_at template input w h p) → Sound N (pass_of template input gx gy w h eps p last)
    unfolding pass_of weighed_of Sound
    pass_sound template input gx gy seven = pick_both (Sound N) _ _ _ among.five (onward_sound _ _ seven (λ rho f. solve_sound p rho f _ _ _ _ _ _ _ _))

module _ (w h : ℕ) (eps : Float) (p : Pose) (last : Float) where
  -- where it moves on theta is from -2 to 2: number 10 is tested before
  pub move_within : (template input gx gy : List Float) (x : Ended) → x ≡ pass_of template input gx gy w h eps p last → (q : Pose) (r : Float) → x ≡ Ok (Move q r) → Within q.theta 2 1
  unfolding Sound
  move_within template input gx gy x e q r g =
      let any : ℕ → Type 0 = λ n. Unit {0} in
      (subst (Sound any) (sym e ∙ g) (pass_sound any (record { five = tt; six = tt; eight = tt; nine = tt; ten = tt }) w h eps p last template input gx gy (inl tt))).0

  -- a pass over the work that the passes before it left
  pub pass_kept : (n : ℕ) (xs ys : List Float) → Kept n xs ys →
      pass_of (image n 8 ys) (image n 2 ys) (image n 3 ys) (image n 4 ys) w h eps p last ≡ pass_of (image n 8 xs) (image n 2 xs) (image n 3 xs) (image n 4 xs) w h eps p last
  pass_kept n xs ys k = rw (k.template, k.input, k.gx, k.gy)
