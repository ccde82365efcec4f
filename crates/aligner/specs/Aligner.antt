-- Document 000's EccAligner::estimate with document 01's numbers: the answer, and what is remembered. Definitions only.
use Rattle.std.specs.Prelude.{ℕ, ◌*◌, List, ltb, eqb, length, take, Err, Option, Some, None}
use Rattle.lists.specs.Lists.{put}
use Rattle.lists.specs.Marked.{pick}
use Rattle.settings.specs.declared.EccConfig.{EccConfig}
use Rattle.checks.specs.Checks.{check_of}
use Rattle.refusals.specs.Refusals.{refusal_of}
use Rattle.pose.specs.declared.Outcome.{Outcome}
use Rattle.alignment.specs.Aligned.{aligned_of}
use Rattle.aligner.specs.declared.EccAligner.{EccAligner}
use Rattle.aligner.specs.declared.Reply.{Reply}
use Rattle.settings.specs.declared.Sides.{Sides}

-- nothing is remembered yet
abbrev pub fresh_of : EccConfig → EccAligner
fresh_of cfg = record { cfg = cfg; prev = None }

-- the checks that come first, of a frame and a store by their lengths: 2, length, 13; 0 where all pass
unfoldable pub entry_of : ℕ → ℕ → ℕ → ℕ → ℕ
entry_of frame w h store = pick (ltb 4096 w) 2 (pick (ltb 4096 h) 2 (pick (eqb frame (w * h)) (pick (ltb store (w * h)) 13 0) 1))

-- whether there is a previous frame of the same sides: 11 for none, 12 for other sides; 0 where there is
unfoldable pub known_by : Option Sides → ℕ → ℕ → ℕ
known_by None w h = 11
known_by (Some prev) w h = pick (eqb prev.w w) (pick (eqb prev.h h) 0 12) 12

unfoldable pub known_of : EccAligner → ℕ → ℕ → ℕ
known_of a w h = known_by a.prev w h

-- the answer to a frame that is taken: the previous frame is the template
unfoldable pub answer_of : EccAligner → List ℕ → ℕ → ℕ → List ℕ → ℕ → ℕ → Outcome
answer_of a frame w h store work marks =
    pick (eqb (known_of a w h) 0) (aligned_of (take (w * h) store) frame w h a.cfg work marks) (record { passes = 0; answer = Err (refusal_of (known_of a w h)) })

-- the aligner and the answer: where the first checks refuse, the aligner stays as it was; else the frame becomes the previous one
unfoldable pub estimate_of : EccAligner → List ℕ → ℕ → ℕ → List ℕ → ℕ → ℕ → Reply
estimate_of a frame w h store work marks =
    let number = entry_of (length frame) w h (length store) in
    pick (eqb number 0)
    (record { aligner = record { cfg = a.cfg; prev = Some (record { w = w; h = h }) }; outcome = answer_of a frame w h store work marks })
    (record { aligner = a; outcome = record { passes = 0; answer = Err (refusal_of number) } })

-- the store afterwards: its front holds the frame that was taken
unfoldable pub store_after : List ℕ → ℕ → ℕ → List ℕ → List ℕ
store_after frame w h store = pick (eqb (entry_of (length frame) w h (length store)) 0) (put store 0 frame) store

-- the number that decides over work and marks: that of the check that refuses, the alignment's own among them; 0 where the passes began
unfoldable pub begun_of : EccAligner → ℕ → ℕ → ℕ → ℕ → ℕ → ℕ
begun_of a frame w h work marks = pick (eqb (known_of a w h) 0) (check_of (w * h) frame w h a.cfg work marks) (known_of a w h)

unfoldable pub refused_of : EccAligner → ℕ → ℕ → ℕ → ℕ → ℕ → ℕ → ℕ
refused_of a frame w h store work marks = pick (eqb (entry_of frame w h store) 0) (begun_of a frame w h work marks) (entry_of frame w h store)
