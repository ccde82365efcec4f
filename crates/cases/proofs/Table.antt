-- Every starred case of document 01 holds: both sides compute to the same number. Assumes nothing.
use mathlib.Core.Path.{refl}
use lib.Ieee.{add, sub, sum, mul, div, neg, round, eq, lt, le, is_nan, of_int, of_bits, to_bits, to_unsigned}
use Rattle.lists.specs.Lists.{grow, tab, grid}
use Rattle.lists.specs.Marked.{pick, over_marked}
use Rattle.marks.specs.Marks.{count_on}
use Rattle.floats.specs.Sums.{sum_over}
use Rattle.lists.specs.Premises.{is_side}
use Rattle.floats.specs.Units.{units_of}
use Rattle.numbers.specs.Numbers.{floor_of, nearest_of, round_of, max_of, abs_of}
use Rattle.root.specs.Root.{sqrt_of}
use Rattle.series.specs.Series.{over30_of, cos_of, sin_of, exp_neg_of}
use Rattle.settings.specs.Sides.{scaled_side_of, side_of, resized_of}
use Rattle.resize.specs.Resize.{place_of, first_of, tap_of, byte_of, lerp_of, bilinear_of, resize_of}
use Rattle.gradients.specs.Gradients.{gradient_x, gradient_y}
use Rattle.pose.specs.Pose.{affine_from_theta_tx_ty, is_pose, identity3, affine_matrix, posed_matrix, matrix_of, unscaled_of}
use Rattle.places.specs.Point.{sx_of, sy_of, inside, marked_at, mark_of, marks_of, index_of}
use Rattle.blends.specs.Blend.{four_of}
use Rattle.warp.specs.Warp.{pixel_of, warp_of}
use Rattle.warp.specs.Warp as warp
use Rattle.checks.specs.Checks.{size_of, room_of, limits_of, check_of}
use Rattle.blur.specs.Blur.{blur_of}
use Rattle.prepare.specs.Prepared.{gray_of, prepared_of}
use Rattle.prepare.specs.Prepared as prepare
use Rattle.stats.specs.Stats.{mean_of, centred_of, product_of, stats_of}
use Rattle.inverse.specs.Inverse.{rows_over_of, inverse_of, dot_of, times_of}
use Rattle.sums.specs.Sums.{steep_of, proj_of, hessian_of, error_of}
use Rattle.solve.specs.Solve.{moved_of, update_of, solve_of}
use Rattle.verdict.specs.Verdict.{verdict_of}
use Rattle.pass.specs.Pass.{onward, weighed_of, pass_of}
use Rattle.runs.specs.Runs.{start, landed, next, after, outcome_of}
use Rattle.alignment.specs.Aligned.{pass_in, run_of, aligned_of}
use Rattle.middle.specs.Held.{nearest_capped, difference_of}
use Rattle.middle.specs.Motion.{motion_of}
use Rattle.driver.specs.Pins.{pin_of, finite_of, posed_of, pins_of}
use Rattle.cases.specs.Table.{Starred}
use Rattle.refusals.specs.Refusals.{refusal_of}

pub starred : Starred
unfolding add sub mul div round lt is_nan of_int of_bits to_bits to_unsigned grow tab grid pick floor_of nearest_of round_of max_of sqrt_of over30_of cos_of sin_of exp_neg_of scaled_side_of side_of resized_of place_of first_of tap_of byte_of lerp_of bilinear_of resize_of gradient_x sum neg eq le over_marked count_on affine_from_theta_tx_ty sx_of sy_of inside marked_at mark_of marks_of index_of four_of warp.sample_of pixel_of warp_of is_pose identity3 affine_matrix posed_matrix matrix_of size_of room_of limits_of check_of refusal_of blur_of gray_of prepare.scaled_of prepared_of gradient_y mean_of centred_of product_of stats_of rows_over_of inverse_of dot_of times_of steep_of proj_of hessian_of error_of moved_of update_of solve_of verdict_of onward weighed_of pass_of start landed next after unscaled_of outcome_of pass_in run_of aligned_of sum_over abs_of is_side units_of nearest_capped difference_of motion_of pin_of finite_of posed_of pins_of
starred = record {
  marks_of_5x5 = refl;
  marks_of_4x5 = refl;
  too_few_marks = refl;
  no_filter = refl;
  even_filter = refl;
  no_pass = refl;
  no_pass_row = refl;
  sides_halved = refl;
  side_at_least_8 = refl;
  side_rounded = refl;
  resized_past_the_edges = refl;
  gradient_of_a_row = refl;
  root_of_two = refl;
  cosine_of_zero = refl;
  sine_of_minus_zero = refl;
  exponential_of_zero = refl;
  shift_up = refl;
  shift_down = refl;
  no_inverse = refl;
}
