-- Document 000's resize_bilinear, from bytes. Definitions only.
use Rattle.std.specs.Prelude.{ℕ, ◌+◌, ◌-◌, ◌*◌, min, List, get_or, Float}
use Rattle.std.specs.Float.Ieee.{to_unsigned}
use Rattle.lists.specs.Lists.{grid}
use Rattle.floats.specs.F32.{◌⊕◌, ◌⊖◌, ◌⊗◌, ◌⊘◌, f32, 0f, 1f, half}
use Rattle.numbers.specs.Numbers.{floor_of, max_of}
use Rattle.resize.specs.declared.Tap.{Tap}

-- sx = (dx as f32 + 0.5) * scale_x - 0.5, with scale_x = src_w as f32 / dst_w as f32
unfoldable pub place_of : ℕ → ℕ → ℕ → Float
place_of src dst d = (f32 d ⊕ half) ⊗ (f32 src ⊘ f32 dst) ⊖ half

-- x0 = sx.floor().max(0.0) as isize
unfoldable pub first_of : Float → ℕ
first_of s = to_unsigned 64 (max_of (floor_of s) 0f)

-- x0, x1 = (x0 + 1).min(src_w - 1) and wx = sx - x0 as f32, for the target place d of dst on a side of src
unfoldable pub tap_of : ℕ → ℕ → ℕ → Tap
tap_of src dst d =
    let s = place_of src dst d in
    record { first = first_of s; next = min (first_of s + 1) (src - 1); weight = s ⊖ f32 (first_of s) }

-- the byte in column x of row y of a frame w wide, as f32
unfoldable pub byte_of : List ℕ → ℕ → ℕ → ℕ → Float
byte_of src w x y = f32 (get_or src (y * w + x) 0)

-- (1.0 - w) * a + w * b
unfoldable pub lerp_of : Float → Float → Float → Float
lerp_of w a b = (1f ⊖ w) ⊗ a ⊕ w ⊗ b

-- (1.0 - wy) * ((1.0 - wx) * p00 + wx * p01) + wy * ((1.0 - wx) * p10 + wx * p11)
unfoldable pub bilinear_of : List ℕ → ℕ → Tap → Tap → Float
bilinear_of src w tx ty =
    lerp_of ty.weight (lerp_of tx.weight (byte_of src w tx.first ty.first) (byte_of src w tx.next ty.first))
    (lerp_of tx.weight (byte_of src w tx.first ty.next) (byte_of src w tx.next ty.next))

-- resize_bilinear(src, src_w, src_h, dst_w, dst_h)
unfoldable pub resize_of : List ℕ → ℕ → ℕ → ℕ → ℕ → List Float
resize_of src w h tw th = grid tw th (λ x y. bilinear_of src w (tap_of w tw x) (tap_of h th y))
