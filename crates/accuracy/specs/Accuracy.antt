-- How far the cosine and the sine of crate series are from their power series, for every float theta from -2 to 2. Definitions only.
use Rattle.std.specs.Prelude.{Float}
use Rattle.floats.specs.Bound.{Within}
use Rattle.series.specs.Series.{cos_of, sin_of}
use Rattle.accuracy.specs.Taylor.{NearCos, NearSin}

-- within 2 ^ -24 of the cosine's series through theta ^ 16
abbrev pub CosineNear : Type 0
CosineNear = (theta : Float) → Within theta 2 1 → NearCos theta (cos_of theta)

-- within 2 ^ -23 of the sine's series through theta ^ 17
abbrev pub SineNear : Type 0
SineNear = (theta : Float) → Within theta 2 1 → NearSin theta (sin_of theta)
