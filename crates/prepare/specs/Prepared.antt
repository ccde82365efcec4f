-- A prepared image, as document 000 makes one: bytes as f32, resized if a side changed, blurred. Definitions only.
use Rattle.std.specs.Prelude.{ℕ, ◌+◌, ◌*◌, ◌≡◌, List, eqb, length, get_or, Float}
use Rattle.lists.specs.Lists.{tab, set_image}
use Rattle.lists.specs.Marked.{pick}
use Rattle.lists.specs.Premises.{InRange, OddFilter, AreBytes}
use Rattle.floats.specs.Bound.{Bounded}
use Rattle.floats.specs.F32.{f32}
use Rattle.resize.specs.Resize.{resize_of}
use Rattle.blur.specs.Blur.{rows_of, columns_of, blur_of}

-- gray_u8_to_f32(img)
unfoldable pub gray_of : List ℕ → List Float
gray_of bytes = tab (length bytes) (λ i. f32 (get_or bytes i 0))

-- if tw != width || th != height { resize_bilinear(..) } else { the bytes as f32 }
unfoldable pub scaled_of : List ℕ → ℕ → ℕ → ℕ → ℕ → List Float
scaled_of bytes w h tw th = pick (eqb tw w) (pick (eqb th h) (gray_of bytes) (resize_of bytes w h tw th)) (resize_of bytes w h tw th)

-- gaussian_blur_separable(scaled, tw, th, gauss_filt_size)
unfoldable pub prepared_of : List ℕ → ℕ → ℕ → ℕ → ℕ → ℕ → List Float
prepared_of bytes w h tw th ksize = blur_of ksize tw th (scaled_of bytes w h tw th)

-- THE STATEMENT: every number of a prepared frame is finite, and of size at most 2^22
abbrev pub PreparedWithin : Type 0
PreparedWithin =
    (bytes : List ℕ) (w h tw th ksize : ℕ) → InRange w h → InRange tw th → OddFilter ksize → length bytes ≡ w * h → AreBytes bytes → Bounded (prepared_of bytes w h tw th ksize) (tw * th) 22

-- the work afterwards: at size 1 the frame goes to the image j + 2 at once; else by way of j and j + 1
unfoldable pub prepared_in : ℕ → List ℕ → ℕ → ℕ → ℕ → ℕ → ℕ → List Float → List Float
prepared_in j bytes w h tw th ksize xs =
    let n = tw * th in
    let scaled = scaled_of bytes w h tw th in
    pick (eqb ksize 1)
    (set_image n (j + 2) scaled xs)
    (set_image n (j + 2) (columns_of ksize tw th (rows_of ksize tw th scaled)) (set_image n (j + 1) (rows_of ksize tw th scaled) (set_image n j scaled xs)))
