-- Both examples, by computing. Assumes nothing.
use mathlib.Core.Path.{refl}
use lib.Ieee.{sub, le, of_int, of_bits, to_unsigned}
use Rattle.lists.specs.Lists.{grid}
use Rattle.lists.specs.Marked.{pick}
use Rattle.numbers.specs.Numbers.{floor_of}
use Rattle.series.specs.Series.{cos_of, sin_of}
use Rattle.pose.specs.Pose.{affine_from_theta_tx_ty}
use Rattle.places.specs.Point.{sx_of, sy_of, inside, marked_at, index_of}
use Rattle.blends.specs.Blend.{four_of}
use Rattle.warp.specs.Warp.{sample_of, pixel_of, warp_of}
use Rattle.moves.specs.Needed.{InfinityBeside, ZeroBeside}

pub infinity_beside : InfinityBeside
unfolding sub le of_int of_bits to_unsigned grid pick floor_of cos_of sin_of affine_from_theta_tx_ty sx_of sy_of inside marked_at index_of four_of sample_of pixel_of warp_of
infinity_beside = refl

pub zero_beside : ZeroBeside
unfolding sub le of_int of_bits to_unsigned grid pick floor_of cos_of sin_of affine_from_theta_tx_ty sx_of sy_of inside marked_at index_of four_of sample_of pixel_of warp_of
zero_beside = refl
