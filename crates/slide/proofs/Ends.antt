-- How a pass of the rail ends, by what the inverse and lambda come to. Assumes nothing.
use Rattle.std.specs.Prelude.{None, Some, Option, Err}
use Prim.Native.Nat.{ℕ}
use mathlib.Core.Path.{◌≡◌, sym, ap, ◌∙◌}
use mathlib.Core.List.{List}
use lib.Ieee.{Float}
use Rattle.stats.specs.declared.Stats.{Stats}
use Rattle.pose.specs.declared.Pose.{Pose}
use Rattle.sums.specs.Sums.{error_of}
use Rattle.solve.specs.Lambda.{lambda_of}
use Rattle.inverse2.specs.Inverse.{inverse2_of, times2_of, dot2_of}
use Rattle.inverse2.specs.declared.Vector2.{Vector2}
use Rattle.inverse2.specs.declared.Matrix2.{Matrix2}
use Rattle.sums2.specs.Sums.{proj2_of, hessian2_of}
use Rattle.slide.specs.Slide.{on_lambda, slid_of, shift_of, slide_of}
use Rattle.slide.proofs.Follow.{on_none, on_some}
use Rattle.refusals.specs.declared.Refusal.TheVariants.{NoInverse, NoStep}
use Rattle.solve.specs.Solve.{Ended}

module _ (ms : List ℕ) (n : ℕ) (p : Pose) (gx gy tz iz : List Float) (s : Stats) (rho : Float) (m : Matrix2) (is_m : m ≡ hessian2_of ms n gx gy) where
  abbrev answer : Ended
  answer = slide_of ms n p gx gy tz iz s rho

  by_inverse : (r : Option Matrix2) → r ≡ inverse2_of m → shift_of ms n p gx gy tz iz s rho r ≡ answer
  unfolding slide_of
  by_inverse r e = ap (shift_of ms n p gx gy tz iz s rho) (e ∙ ap inverse2_of is_m)

  pub no_inverse : (r : Option Matrix2) → r ≡ inverse2_of m → r ≡ None → Err NoInverse ≡ answer
  unfolding shift_of
  no_inverse r e k = sym (ap (shift_of ms n p gx gy tz iz s rho) k) ∙ by_inverse r e

  module _ (r : Option Matrix2) (h : Matrix2) (is_r : r ≡ inverse2_of m) (there : r ≡ Some h) (ip tp : Vector2) (is_ip : ip ≡ proj2_of ms n gx gy iz) (is_tp : tp ≡ proj2_of ms n gx gy tz) where
    by_there : shift_of ms n p gx gy tz iz s rho (Some h) ≡ answer
    by_there = sym (ap (shift_of ms n p gx gy tz iz s rho) there) ∙ by_inverse r is_r

    abbrev to_move : Float → Ended
    to_move l = slid_of p (times2_of h (proj2_of ms n gx gy (error_of n l tz iz))) rho

    module _ (iph : Vector2) (is_iph : iph ≡ times2_of h ip) (a b : Float) (is_a : a ≡ dot2_of ip iph) (is_b : b ≡ dot2_of tp iph) (q : Option Float) (is_q : q ≡ lambda_of s a b) where
      by_lambda : on_lambda q to_move ≡ answer
      unfolding shift_of
      by_lambda = rw (is_q, is_a, is_b, is_iph, is_ip, is_tp) by_there

      pub no_lambda : q ≡ None → Err NoStep ≡ answer
      no_lambda k = on_none to_move q k ∙ by_lambda

      pub one_lambda : (l : Float) → q ≡ Some l → (ep delta : Vector2) → ep ≡ proj2_of ms n gx gy (error_of n l tz iz) → delta ≡ times2_of h ep → slid_of p delta rho ≡ answer
      one_lambda l k ep delta ee ed = ap (λ (d : Vector2). slid_of p d rho) (ed ∙ ap (times2_of h) ee) ∙ on_some to_move q l k ∙ by_lambda
