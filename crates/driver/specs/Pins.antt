-- The driver numbers: dx and dy by document 02, request 2, turn by document 01. Exact, to the nearest whole number, half away from zero, held to
-- -32768..32767. Definitions only. All is in whole numbers: a finite value is m * up e / down e with a sign, and nothing is rounded but the last quotient.
use Rattle.std.specs.Prelude.{ℕ, ◌-◌, ◌*◌, ◌&&◌, ℤ, pos, Float, Ok, Err}
use Rattle.std.specs.Float.{nan, inf, fin}
use Rattle.std.specs.Float.Ieee.{up, down}
use Rattle.std.specs.Float.Ieee.Scale.{finite}
use Rattle.lists.specs.Marked.{pick}
use Rattle.lists.specs.Premises.{is_side}
use Rattle.pose.specs.Pose.{Answer, posed_matrix}
use Rattle.middle.specs.Held.{nearest_capped}
use Rattle.middle.specs.Motion.{motion_of}
use Rattle.driver.specs.declared.Pins.{Pins}

-- k times a value, to the nearest whole number, half away from zero, held; an infinity is held too
unfoldable pub pin_of : ℕ → Float → ℤ
unfolding nearest_capped
pin_of k nan = pos 0
pin_of k (inf s) = nearest_capped s 32768 1
pin_of k (fin s m e) = nearest_capped s (k * (m * up e)) (down e)

-- 0, 0, 0
abbrev pub still_of : Pins
still_of = record { dx = pos 0; dy = pos 0; turn = pos 0 }

-- of a pose that is finite: how far its matrix moves the point (a/2, b/2), and its turn
unfoldable pub finite_of : Float → Float → Float → ℕ → ℕ → Pins
unfolding pin_of posed_matrix motion_of
finite_of theta tx ty a b =
    let m = posed_matrix theta tx ty in
    record { dx = motion_of m.m00 a m.m01 b m.m02; dy = motion_of m.m11 b m.m10 a m.m12; turn = pin_of 8192 theta }

-- of a pose: 0, 0, 0 where theta, tx or ty is not finite
unfoldable pub posed_of : Float → Float → Float → ℕ → ℕ → Pins
unfolding finite_of
posed_of theta tx ty a b = pick (finite theta && finite tx && finite ty) (finite_of theta tx ty a b) still_of

-- of an answer to a frame of w by h pixels, whose middle is ((w - 1)/2, (h - 1)/2): 0, 0, 0 for a refusal and for sides that no frame has
unfoldable pub pins_of : Answer → ℕ → ℕ → Pins
unfolding is_side posed_of
pins_of (Err r) w h = still_of
pins_of (Ok p) w h = pick (is_side w && is_side h) (posed_of p.theta p.tx p.ty (w - 1) (h - 1)) still_of
