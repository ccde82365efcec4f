-- What is felt of a turn alone and of a shift alone. Statements only.
use Rattle.std.specs.Prelude.{Bool, true, ◌≡◌, ℕ, ◌-◌, T, pos, Float, Ok}
use Rattle.std.specs.Float.{binary32}
use Rattle.std.specs.Float.Ieee.{neg, fits}
use Rattle.lists.specs.Marked.{pick}
use Rattle.lists.specs.Premises.{is_side}
use Rattle.floats.specs.F32.{0f}
use Rattle.pose.specs.Pose.{is_pose, affine_matrix}
use Rattle.felt.specs.Still.{keeping_of}
use Rattle.driver.specs.Pins.{pin_of, pins_of}

-- A TURN ABOUT THE MIDDLE of a frame, by any theta in -2..2: its shift is worked out exactly from the matrix's entries and rounded once, to f32.
-- Then dx and dy are 0, and turn tells of it
abbrev pub TurnInPlace : Type 0
TurnInPlace = (theta rho : Float) (w h : ℕ) → is_pose theta 0f 0f ≡ true → is_side w ≡ true → is_side h ≡ true →
    let m = affine_matrix theta 0f 0f in
    let tx = keeping_of m.m00 (w - 1) m.m01 (h - 1) in
    let ty = keeping_of m.m11 (h - 1) m.m10 (w - 1) in
    pins_of (Ok (record { theta = theta; tx = tx; ty = ty; rho = rho })) w h ≡ record { dx = pos 0; dy = pos 0; turn = pin_of 8192 theta }

-- A SHIFT ALONE, theta 0 or -0: for every frame dx is tx * 256 and dy is ty * 256, as document 01 has it
abbrev pub ShiftAsBefore : Type 0
ShiftAsBefore = (minus : Bool) (tx ty rho : Float) (w h : ℕ) → T (fits binary32 tx) → T (fits binary32 ty) →
    let theta = pick minus (neg 0f) 0f in
    is_pose theta tx ty ≡ true → is_side w ≡ true → is_side h ≡ true → pins_of (Ok (record { theta = theta; tx = tx; ty = ty; rho = rho })) w h ≡ record { dx = pin_of 256 tx; dy = pin_of 256 ty; turn = pos 0 }

-- A FRAME OF ONE PIXEL: document 01's numbers, for every pose
abbrev pub OnePixelAsBefore : Type 0
OnePixelAsBefore = (theta tx ty rho : Float) → T (fits binary32 tx) → T (fits binary32 ty) → is_pose theta tx ty ≡ true
    → pins_of (Ok (record { theta = theta; tx = tx; ty = ty; rho = rho })) 1 1 ≡ record { dx = pin_of 256 tx; dy = pin_of 256 ty; turn = pin_of 8192 theta }
