-- When nothing is felt along an axis. Definitions and statements only.
use Rattle.std.specs.Prelude.{true, false, ◌≡◌, ℕ, ◌+◌, ◌-◌, ◌*◌, ◌^◌, ◌≤◌, ◌<◌, T, ltb, pos, Float}
use Rattle.std.specs.Float.{binary32}
use Rattle.std.specs.Float.Ieee.{fits, round}
use Rattle.lists.specs.Marked.{pick}
use Rattle.floats.specs.Bound.{Within}
use Rattle.middle.specs.Motion.{share_of, image_of, motion_of}

-- the exact motion of the point (a/2, b/2), times 256, is less than 1/2 in size: by what is added and what is taken away, of which one difference is 0
abbrev pub Unfelt : Float → ℕ → Float → ℕ → Float → Type 0
Unfelt p a q b t =
    let g = image_of false p a q b t in
    let l = image_of true p a q b t + 128 * (2 ^ 149 * a) in
    (2 * (g - l) < 2 ^ 149) × (2 * (l - g) < 2 ^ 149)

-- EXACTLY THEN nothing is felt: a motion below 1/512 pixel gives 0, any other gives another number
abbrev pub StillExactly : Type 0
StillExactly = (p : Float) (a : ℕ) (q : Float) (b : ℕ) (t : Float) → (Unfelt p a q b t → motion_of p a q b t ≡ pos 0) × (motion_of p a q b t ≡ pos 0 → Unfelt p a q b t)

-- the f32 nearest to the shift that keeps the point (a/2, b/2) in its place: to a/2 - (p * a/2 + q * b/2)
unfoldable pub keeping_of : Float → ℕ → Float → ℕ → Float
keeping_of p a q b =
    let g = share_of false p * a + share_of false q * b in
    let l = share_of true p * a + share_of true q * b + 2 ^ 149 * a in
    pick (ltb g l) (round binary32 false (l - g) (2 * 2 ^ 149)) (round binary32 true (g - l) (2 * 2 ^ 149))

-- WITH THAT SHIFT NOTHING IS FELT: its rounding is not
abbrev pub KeptInPlace : Type 0
KeptInPlace = (p : Float) (a : ℕ) (q : Float) (b : ℕ) → T (fits binary32 p) → T (fits binary32 q) → Within p 1 1 → Within q 2 1 → a ≤ 4095 → b ≤ 4095
    → motion_of p a q b (keeping_of p a q b) ≡ pos 0
