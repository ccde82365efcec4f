-- One warped pixel: what is read at its place. Assumes nothing.
use mathlib.Core.Path.{◌≡◌}
use mathlib.Core.List.{List}
use Prim.Native.Nat.{ℕ, ◌+◌, ◌*◌}
use native.Mathlib.Omega.{arith}
use lib.Ieee.{Float}
use Rattle.places.specs.Places.{PlaceAt}
use Rattle.warp.specs.Warp.{sample_of}
use Rattle.places.specs.Point.{index_of}
use Rattle.blends.specs.Reads.{four_at}

-- by its place, the sample of a point
pub sample_is : (src : List Float) (w : ℕ) (sx sy : Float) (i : ℕ) (a b : Float) → PlaceAt w sx sy i a b → four_at src w i a b ≡ sample_of src w sx sy
unfolding four_at sample_of index_of
sample_is src w sx sy i a b o =
    let x0 = index_of sx in
    let y0 = index_of sy in
    let p : y0 * w + x0 + 1 ≡ y0 * w + (x0 + 1) = omega arith in
    let q : y0 * w + x0 + w ≡ (y0 + 1) * w + x0 = omega arith in
    let r : y0 * w + x0 + w + 1 ≡ (y0 + 1) * w + (x0 + 1) = omega arith in
    rw (o.at_is, o.across_is, o.down_is, r, q, p)
