-- One pixel: its four pixels in an image, as the image lies in a list of images. Assumes nothing.
use mathlib.Core.Path.{◌≡◌, ap, ◌∙◌}
use mathlib.Core.List.{List}
use Prim.Native.Nat.{ℕ, ◌+◌, ◌*◌, ◌<◌}
use native.Mathlib.Omega.{arith}
use lib.Ieee.{Float, nan}
use Rattle.lists.specs.Lists.{image}
use Rattle.lists.proofs.Images.{get_d_image}
use Rattle.blends.specs.Reads.{four_at}

-- the four pixels of image k, as they lie in a list of images
pub blend_image : (xs : List Float) (n k w i : ℕ) (a b : Float) → i + w + 1 < n → four_at xs w (k * n + i) a b ≡ four_at (image n k xs) w i a b
unfolding four_at
blend_image xs n k w i a b h =
    let p : k * n + (i + 1) ≡ k * n + i + 1 = omega arith in
    let q : k * n + (i + w) ≡ k * n + i + w = omega arith in
    let r : k * n + (i + w + 1) ≡ k * n + i + w + 1 = omega arith in
    rw (get_d_image n k i xs nan (omega arith), get_d_image n k (i + 1) xs nan (omega arith), get_d_image n k (i + w) xs nan (omega arith), get_d_image n k (i + w + 1) xs nan (omega arith), p, q, r)

-- a value that the code read for image k
pub mixed : (xs : List Float) (n k w i at : ℕ) (a b : Float) (v : Float) → i + w + 1 < n → at ≡ k * n + i → v ≡ four_at xs w at a b → v ≡ four_at (image n k xs) w i a b
mixed xs n k w i at a b v h e g = g ∙ ap (λ (j : ℕ). four_at xs w j a b) e ∙ blend_image xs n k w i a b h
