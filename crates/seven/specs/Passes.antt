-- No pass ends with number 7. Statements only.
use Rattle.std.specs.Prelude.{ℕ, ◌*◌, ◌≤◌, ◌≡◌, List, length, Float}
use Rattle.lists.specs.Premises.{InRange, OddFilter, AreBytes}
use Rattle.floats.specs.Bound.{Bounded}
use Rattle.prepare.specs.Prepared.{prepared_of}
use Rattle.pose.specs.declared.Pose.{Pose}
use Rattle.verdict.specs.Finite.{RhoFinite}
use Rattle.pass.specs.Pass.{stats_at}

-- over any template and input of w by h numbers within ±2^22, and at any pose: rho is finite whenever it is worked out
abbrev pub PassNeverSeven : Type 0
PassNeverSeven = (template input : List Float) (w h : ℕ) (p : Pose) → w ≤ 4096 → h ≤ 4096 → Bounded template (w * h) 22 → Bounded input (w * h) 22 → RhoFinite (stats_at template input w h p)

-- so over any two frames of w by h bytes, resized to any sides and blurred by any filter that is taken, and at any pose: in every pass
abbrev pub FramesNeverSeven : Type 0
FramesNeverSeven =
    (template input : List ℕ) (w h tw th ksize : ℕ) (p : Pose) → InRange w h → InRange tw th → OddFilter ksize → length template ≡ w * h → length input ≡ w * h → AreBytes template → AreBytes input
    → RhoFinite (stats_at (prepared_of template w h tw th ksize) (prepared_of input w h tw th ksize) tw th p)
