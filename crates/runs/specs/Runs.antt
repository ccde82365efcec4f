-- The passes of a call: the state after k of them, and what they come to. Definitions only.
use Rattle.std.specs.Prelude.{ℕ, zero, suc, Float, Ok, Err}
use Rattle.std.specs.Float.Ieee.{neg}
use Rattle.floats.specs.F32.{◌⊘◌, 0f, 1f}
use Rattle.pose.specs.declared.Pose.{Pose}
use Rattle.pose.specs.Pose.{unscaled_of}
use Rattle.refusals.specs.declared.Refusal.{Refusal}
use Rattle.pose.specs.declared.Outcome.{Outcome}
use Rattle.solve.specs.declared.Step.TheVariants.{Stop, Move}
use Rattle.solve.specs.Solve.{Ended}

-- after some passes: still going, with the pose, rho and last rho; or stopped with a pose; or refused. Each with the warps done
pub data Run : Type 0 where
  going : ℕ → Pose → Float → Float → Run
  stopped : ℕ → Pose → Float → Run
  refused : ℕ → Refusal → Run

-- theta = tx = ty = 0, rho = -1, last rho minus infinity
unfoldable pub start : Run
start = going 0 (record { theta = 0f; tx = 0f; ty = 0f }) (neg 1f) (neg 1f ⊘ 0f)

unfoldable pub landed : ℕ → Pose → Ended → Run
landed k p (Err r) = refused (suc k) r
landed k p (Ok (Stop rho)) = stopped (suc k) p rho
landed k p (Ok (Move q rho)) = going (suc k) q rho rho

-- one more pass; the passes end at the first ending
unfoldable pub next : (Pose → Float → Ended) → Run → Run
unfolding landed
next pass (going k p rho last) = landed k p (pass p last)
next pass (stopped k p rho) = stopped k p rho
next pass (refused k r) = refused k r

unfoldable pub after : (Pose → Float → Ended) → ℕ → Run
unfolding start next
after pass zero = start
after pass (suc k) = next pass (after pass k)

-- what the passes come to: after max_iter passes the pose stands
unfoldable pub outcome_of : Float → Float → Run → Outcome
unfolding unscaled_of
outcome_of sx sy (going k p rho last) = record { passes = k; answer = unscaled_of sx sy p rho }
outcome_of sx sy (stopped k p rho) = record { passes = k; answer = unscaled_of sx sy p rho }
outcome_of sx sy (refused k r) = record { passes = k; answer = Err r }
