-- The line of a frame in document 01's program: position from 1, number, passes, dx, dy, turn. Definitions only.
use Rattle.std.specs.Prelude.{ℕ, ◌+◌}
use Rattle.pose.specs.Pose.{number_of}
use Rattle.pose.specs.declared.Outcome.{Outcome}
use Rattle.driver.specs.Pins.{pins_of}
use Rattle.lines.specs.declared.Line.{Line}

-- the line of a frame of w by h pixels before which f frames came
unfoldable pub line_of : ℕ → Outcome → ℕ → ℕ → Line
line_of f o w h =
    let pins = pins_of o.answer w h in
    record { position = f + 1; number = number_of o.answer; passes = o.passes; dx = pins.dx; dy = pins.dy; turn = pins.turn }
