-- The example, by computing. Assumes nothing.
use mathlib.Core.Path.{refl}
use lib.Ieee.{add, sub, mul, div, round, lt, eq, le, sum, neg, of_int, of_bits, to_unsigned}
use Rattle.lists.specs.Lists.{grow, tab, grid}
use Rattle.lists.specs.Marked.{pick, over_marked}
use Rattle.marks.specs.Marks.{count_on}
use Rattle.floats.specs.Sums.{sum_over}
use Rattle.numbers.specs.Numbers.{floor_of}
use Rattle.root.specs.Root.{sqrt_of}
use Rattle.series.specs.Series.{cos_of, sin_of}
use Rattle.settings.specs.Sides.{resized_of}
use Rattle.blur.specs.Blur.{blur_of}
use Rattle.prepare.specs.Prepared.{gray_of, scaled_of, prepared_of}
use Rattle.checks.specs.Checks.{size_of, room_of, limits_of, check_of}
use Rattle.pose.specs.Pose.{affine_from_theta_tx_ty}
use Rattle.places.specs.Point.{sx_of, sy_of, inside, marked_at, mark_of, marks_of, index_of}
use Rattle.blends.specs.Blend.{four_of}
use Rattle.warp.specs.Warp.{sample_of, pixel_of, warp_of}
use Rattle.stats.specs.Stats.{mean_of, centred_of, product_of, stats_of}
use Rattle.verdict.specs.Verdict.{verdict_of}
use Rattle.pass.specs.Pass.{onward, weighed_of, pass_of}
use Rattle.runs.specs.Runs.{start, landed, next, after, outcome_of}
use Rattle.alignment.specs.Aligned.{pass_in, run_of, aligned_of}
use Rattle.seven.specs.Needed.{BeyondBytes}

pub beyond_bytes : BeyondBytes
unfolding add sub mul div round lt eq le sum neg of_int of_bits to_unsigned grow tab grid pick over_marked count_on sum_over floor_of sqrt_of cos_of sin_of resized_of blur_of gray_of scaled_of prepared_of size_of room_of limits_of check_of affine_from_theta_tx_ty sx_of sy_of inside marked_at mark_of marks_of index_of four_of sample_of pixel_of warp_of mean_of centred_of product_of stats_of verdict_of onward weighed_of pass_of start landed next after outcome_of pass_in run_of aligned_of
beyond_bytes = refl
