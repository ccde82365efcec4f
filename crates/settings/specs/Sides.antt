-- The sides after resizing, as document 000 works them out: in f32, each operation rounded. Definitions only.
use Rattle.std.specs.Prelude.{ℕ, max, ltb, Float}
use Rattle.std.specs.Float.Ieee.{to_unsigned}
use Rattle.lists.specs.Marked.{pick}
use Rattle.floats.specs.F32.{◌⊗◌, ◌⊘◌, f32}
use Rattle.numbers.specs.Numbers.{round_of}
use Rattle.settings.specs.declared.Sides.{Sides}

-- width as f32 * scale, with scale = target_long_edge as f32 / current_long as f32
unfoldable pub scaled_side_of : ℕ → ℕ → ℕ → Float
scaled_side_of edge long s = f32 s ⊗ (f32 edge ⊘ f32 long)

-- (.. .round() as usize).max(8)
unfoldable pub side_of : ℕ → ℕ → ℕ → ℕ
side_of edge long s = max (to_unsigned 64 (round_of (scaled_side_of edge long s))) 8

-- if target_long_edge > 0 and current_long > target_long_edge both sides are scaled; else they stay
unfoldable pub resized_of : ℕ → ℕ → ℕ → Sides
resized_of edge w h =
    pick (ltb 0 edge)
    (pick (ltb edge (max w h))
    (record { w = side_of edge (max w h) w; h = side_of edge (max w h) h })
    (record { w = w; h = h }))
    (record { w = w; h = h })
