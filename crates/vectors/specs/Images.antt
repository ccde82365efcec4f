-- When a vector of an image stage agrees with the definitions. Definitions only.
use Rattle.std.specs.Prelude.{ℕ, ◌+◌, ◌*◌, Bool, ◌&&◌, List, [], ◌∷◌, eqb, Float}
use Rattle.settings.specs.Sides.{resized_of}
use Rattle.resize.specs.Resize.{resize_of}
use Rattle.kernel.specs.Kernel.{kernel_of}
use Rattle.blur.specs.Blur.{blur_of}
use Rattle.gradients.specs.Gradients.{gradient_x, gradient_y}
use Rattle.prepare.specs.Prepared.{prepared_of}
use Rattle.words.specs.Words.{stored_at, bytes_at, floats_at, floats_agree}
use Rattle.lists.specs.Premises.{is_side}
use Rattle.vectors.specs.Shapes.{is_shape, is_filter, is_kernel}
use Rattle.vectors.specs.Kinds.{of_kind}

-- the edge, w, h; the sides after
unfoldable pub sides_agree : List ℕ → Bool
sides_agree words =
    let w = stored_at words 2 in
    let h = stored_at words 3 in
    let s = resized_of (stored_at words 1) w h in
    is_side w && is_side h && eqb s.w (stored_at words 4) && eqb s.h (stored_at words 5)

-- w, h, the sides after, bytes; numbers
unfoldable pub resize_agrees : List ℕ → Bool
resize_agrees words =
    let w = stored_at words 1 in
    let h = stored_at words 2 in
    let tw = stored_at words 3 in
    let th = stored_at words 4 in
    is_shape w h && is_shape tw th && floats_agree words (5 + w * h) (resize_of (bytes_at words 5 (w * h)) w h tw th)

-- the kernel's size; weights
unfoldable pub kernel_agrees : List ℕ → Bool
kernel_agrees words = let k = stored_at words 1 in is_kernel k && floats_agree words 2 (kernel_of k)

-- w, h, the kernel's size, numbers; numbers
unfoldable pub blur_agrees : List ℕ → Bool
blur_agrees words =
    let w = stored_at words 1 in
    let h = stored_at words 2 in
    let k = stored_at words 3 in
    is_shape w h && is_kernel k && floats_agree words (4 + w * h) (blur_of k w h (floats_at words 4 (w * h)))

-- w, h, numbers; numbers
unfoldable pub gradient_agrees : (ℕ → ℕ → List Float → List Float) → List ℕ → Bool
gradient_agrees gradient words =
    let w = stored_at words 1 in
    let h = stored_at words 2 in
    is_shape w h && floats_agree words (3 + w * h) (gradient w h (floats_at words 3 (w * h)))

-- w, h, the sides after, the kernel's size, bytes; numbers
unfoldable pub prepared_agrees : List ℕ → Bool
prepared_agrees words =
    let w = stored_at words 1 in
    let h = stored_at words 2 in
    let tw = stored_at words 3 in
    let th = stored_at words 4 in
    let k = stored_at words 5 in
    is_shape w h && is_shape tw th && is_filter k && floats_agree words (6 + w * h) (prepared_of (bytes_at words 6 (w * h)) w h tw th k)

abbrev pub image_table : List ℕ → List (ℕ × Bool)
image_table words =
    (16, sides_agree words)
    ∷ (17, resize_agrees words)
    ∷ (18, kernel_agrees words)
    ∷ (19, blur_agrees words)
    ∷ (20, gradient_agrees gradient_x words)
    ∷ (21, gradient_agrees gradient_y words)
    ∷ (22, prepared_agrees words)
    ∷ []

unfoldable pub image_agrees : ℕ → List ℕ → Bool
image_agrees kind words = of_kind kind (image_table words)
