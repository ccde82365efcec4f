-- How a pass ends, by what the inverse and lambda come to. Assumes nothing.
use Rattle.std.specs.Prelude.{None, Some, Option, Err}
use Prim.Native.Nat.{ℕ}
use mathlib.Core.Path.{◌≡◌, refl, sym, ap, ap₂, ◌∙◌}
use mathlib.Core.Bool.{Bool, true, false}
use mathlib.Core.List.{List}
use lib.Ieee.{Float, le}
use lib.Ieee.Scale.{finite}
use Rattle.lists.specs.Marked.{pick}
use Rattle.floats.specs.F32.{◌⊖◌, ◌⊗◌, ◌⊘◌, 0f}
use Rattle.stats.specs.declared.Stats.{Stats}
use Rattle.inverse.specs.Inverse.{inverse_of, times_of, dot_of}
use Rattle.inverse.specs.declared.Vector3.{Vector3}
use Rattle.inverse.specs.declared.Matrix3.{Matrix3}
use Rattle.pose.specs.declared.Pose.{Pose}
use Rattle.sums.specs.Sums.{proj_of, hessian_of, error_of}
use Rattle.solve.specs.Lambda.{lambda_of}
use Rattle.solve.specs.Solve.{Ended, moved_of, update_of, solve_of}
use Rattle.refusals.specs.declared.Refusal.TheVariants.{NoStep, NoInverse}

-- ---- three tests in a row: the first must fail and the other two pass
abbrev tested : Bool → Bool → Bool → Float → Option Float
tested a b c l = pick a None (pick b (pick c (Some l) None) None)

-- the step that comes of lambda, f where there is one
abbrev answer : (Float → Ended) → Option Float → Ended
answer f (Some l) = f l
answer f None = Err NoStep

by_tests : (a b c : Bool) (l : Float) (f : Float → Ended) →
    answer f (tested a b c l) ≡ pick a (Err NoStep) (pick b (pick c (f l) (Err NoStep)) (Err NoStep))
unfolding pick
by_tests true b c l f = refl
by_tests false true true l f = refl
by_tests false true false l f = refl
by_tests false false c l f = refl

-- ---- lambda, by the products as they are worked out
module _ (h : Matrix3) (ip tp : Vector3) (s : Stats) where
  abbrev divisor : Float
  divisor = s.corr ⊖ dot_of tp (times_of h ip)

  abbrev ratio : Float
  ratio = (s.img_norm ⊗ s.img_norm ⊖ dot_of ip (times_of h ip)) ⊘ divisor

  abbrev lambda_by : Option Float
  lambda_by = tested (le divisor 0f) (finite divisor) (finite ratio) ratio

  by_products : (iph : Vector3) → iph ≡ times_of h ip → (a b : Float) → a ≡ dot_of ip iph → b ≡ dot_of tp iph → lambda_of s a b ≡ lambda_by
  unfolding lambda_of
  by_products iph is_iph a b is_a is_b = rw (is_a, is_b, is_iph)

-- ---- the three ends
module _ (ms : List ℕ) (n : ℕ) (p : Pose) (j0 j1 j2 tz iz : List Float) (s : Stats) (rho : Float) (m : Matrix3) (is_m : m ≡ hessian_of ms n j0 j1 j2) where
  by_inverse : (r : Option Matrix3) → r ≡ inverse_of m → update_of ms n p j0 j1 j2 tz iz s rho r ≡ solve_of ms n p j0 j1 j2 tz iz s rho
  unfolding solve_of
  by_inverse r e = ap (update_of ms n p j0 j1 j2 tz iz s rho) (e ∙ ap inverse_of is_m)

  pub no_inverse : (r : Option Matrix3) → r ≡ inverse_of m → r ≡ None → Err NoInverse ≡ solve_of ms n p j0 j1 j2 tz iz s rho
  unfolding update_of
  no_inverse r e k = sym (ap (update_of ms n p j0 j1 j2 tz iz s rho) k) ∙ by_inverse r e

  module _ (r : Option Matrix3) (h : Matrix3) (is_r : r ≡ inverse_of m) (there : r ≡ Some h) (ip tp : Vector3) (is_ip : ip ≡ proj_of ms n j0 j1 j2 iz) (is_tp : tp ≡ proj_of ms n j0 j1 j2 tz) where
    by_there : update_of ms n p j0 j1 j2 tz iz s rho (Some h) ≡ solve_of ms n p j0 j1 j2 tz iz s rho
    by_there = sym (ap (update_of ms n p j0 j1 j2 tz iz s rho) there) ∙ by_inverse r is_r

    abbrev to_move : Float → Ended
    to_move l = moved_of p (times_of h (proj_of ms n j0 j1 j2 (error_of n l tz iz))) rho

    module _ (iph : Vector3) (is_iph : iph ≡ times_of h ip) (a b : Float) (is_a : a ≡ dot_of ip iph) (is_b : b ≡ dot_of tp iph) (q : Option Float) (is_q : q ≡ lambda_of s a b) where
      by_lambda : answer to_move q ≡ solve_of ms n p j0 j1 j2 tz iz s rho
      unfolding update_of
      by_lambda =
          ap (answer to_move) (is_q ∙ by_products h ip tp s iph is_iph a b is_a is_b ∙ ap₂ (λ (a b : Vector3). lambda_by h a b s) is_ip is_tp)
          ∙ by_tests _ _ _ (ratio h (proj_of ms n j0 j1 j2 iz) (proj_of ms n j0 j1 j2 tz) s) to_move
          ∙ by_there

      pub no_lambda : q ≡ None → Err NoStep ≡ solve_of ms n p j0 j1 j2 tz iz s rho
      no_lambda k = sym (ap (answer to_move) k) ∙ by_lambda

      pub one_lambda : (l : Float) → q ≡ Some l → (ep delta : Vector3) → ep ≡ proj_of ms n j0 j1 j2 (error_of n l tz iz) → delta ≡ times_of h ep →
          moved_of p delta rho ≡ solve_of ms n p j0 j1 j2 tz iz s rho
      one_lambda l k ep delta ee ed = ap (λ (d : Vector3). moved_of p d rho) (ed ∙ ap (times_of h) ee) ∙ sym (ap (answer to_move) k) ∙ by_lambda
