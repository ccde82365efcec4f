-- When a vector of the driver numbers agrees with the definitions, and the table of both kinds. Definitions only.
-- The words: the kind; the answer's number, theta, tx, ty; the sides w, h; dx, dy and turn, each by 1 if it is below 0, else 0, and by its distance to 0.
use Rattle.std.specs.Prelude.{ℕ, ◌+◌, ◌%◌, Bool, ◌&&◌, List, [], ◌∷◌, eqb, ℤ, pos, negsuc, Ok, Err}
use Rattle.lists.specs.Marked.{pick}
use Rattle.floats.specs.F32.{0f}
use Rattle.pose.specs.Pose.{Answer}
use Rattle.refusals.specs.declared.Refusal.TheVariants.{Handed}
use Rattle.driver.specs.Pins.{pins_of}
use Rattle.words.specs.Words.{stored_at, float_of}
use Rattle.vectors.specs.Kinds.{of_kind}
use Rattle.calls.specs.Calls.{call_agrees}

unfoldable pub pin_agrees : ℤ → ℕ → ℕ → Bool
pin_agrees (pos n) below size = eqb below 0 && eqb n size
pin_agrees (negsuc n) below size = eqb below 1 && eqb (n + 1) size

unfoldable pub answer_at : List ℕ → Answer
answer_at words =
    pick (eqb (stored_at words 1) 0)
    (Ok (record { theta = float_of (stored_at words 2); tx = float_of (stored_at words 3); ty = float_of (stored_at words 4); rho = 0f }))
    (Err (Handed (stored_at words 1 % 256)))

unfoldable pub pins_agree : List ℕ → Bool
pins_agree words =
    let p = pins_of (answer_at words) (stored_at words 5) (stored_at words 6) in
    pin_agrees p.dx (stored_at words 7) (stored_at words 8) && pin_agrees p.dy (stored_at words 9) (stored_at words 10) && pin_agrees p.turn (stored_at words 11) (stored_at words 12)

abbrev pub call_table : List ℕ → List (ℕ × Bool)
call_table words = (26, call_agrees words) ∷ (27, pins_agree words) ∷ []

unfoldable pub calls_agree : ℕ → List ℕ → Bool
calls_agree kind words = of_kind kind (call_table words)
