-- One call of the aligner's `estimate`, as its contract admits it, and how it ends: the answer, the passes, and by the number what became of the
-- record, the store, work and marks. Definitions only.
use Rattle.std.specs.Prelude.{ℕ, ◌*◌, ◌≤◌, ◌≡◌, Bool, true, false, not, ◌&&◌, ◌||◌, List, ◌++◌, T, eqb, length, drop, Float, Some}
use Rattle.lists.specs.Marked.{pick}
use Rattle.floats.specs.F32.{0f}
use Rattle.lists.specs.Marked.{words_for}
use Rattle.checks.specs.Checks.{size_of}
use Rattle.pose.specs.Pose.{number_of}
use Rattle.pose.specs.declared.Outcome.{Outcome}
use Rattle.aligner.specs.declared.EccAligner.{EccAligner}
use Rattle.aligner.proofs.estimate.Reads as estimate
use Rattle.aligner.proofs.estimate.Kinds as estimate_kinds
use Rattle.demands.specs.Finite.{ends_in, clears, Cleared}
use Rattle.demands.specs.Calls.{Admitted}

-- a call of `estimate` and a result that its contract admits
abbrev pub Estimate : Type 0
Estimate = Admitted estimate_kinds.ps estimate_kinds.r estimate.Post

-- what a call is handed and leaves
pub record CallMemory : Type 0 where
  pub aligner : EccAligner
  pub store : List ℕ
  pub work : List Float
  pub marks : List ℕ

module _ (c : Estimate) where
  abbrev pub frame : List ℕ
  frame = c.handed.1.0.now

  abbrev pub w : ℕ
  w = c.handed.1.1.0

  abbrev pub h : ℕ
  h = c.handed.1.1.1.0

  abbrev pub entering : CallMemory
  entering = record {
    aligner = c.handed.0;
    store = c.handed.1.1.1.1.0.now;
    work = c.handed.1.1.1.1.1.0.now;
    marks = c.handed.1.1.1.1.1.1.0.now;
  }

  abbrev pub leaving : CallMemory
  leaving = record {
    aligner = c.result.aligner;
    store = c.left.1.1.1.1.0.now;
    work = c.left.1.1.1.1.1.0.now;
    marks = c.left.1.1.1.1.1.1.0.now;
  }

  abbrev pub outcome : Outcome
  outcome = c.result.outcome

-- what a call may do: change nothing; keep the frame and leave work and marks; keep the frame and clear work and marks
pub data Effect : Type 0 where
  untouched kept cleared : Effect

-- by the number, and for 1 by its reason: whether the frame has w * h bytes. 2, 13 and 1 for a wrong length change nothing; 0 and 5 to 10 clear; the rest,
-- 1 by the alignment's own checks, 3, 4, 11 and 12, only keep
unfoldable pub effect_of : ℕ → Bool → Effect
effect_of number fits = pick (eqb number 2 || eqb number 13 || (eqb number 1 && not fits)) untouched (pick (clears number) cleared kept)

-- whether the frame was taken
abbrev pub is_taken : Effect → Bool
is_taken untouched = false
is_taken kept = true
is_taken cleared = true

-- the frame is the previous one: the record names its sides, and its bytes stand at the store's front
pub record FrameKept (frame : List ℕ) (w h : ℕ) (x y : CallMemory) : Type 0 where
  pub record_is : y.aligner ≡ record { cfg = x.aligner.cfg; prev = Some (record { w = w; h = h }) }
  pub sized : length frame ≡ w * h
  pub room : w * h ≤ length x.store
  pub store_is : y.store ≡ frame ++ drop (w * h) x.store

-- x before and y after
abbrev pub Did : Effect → List ℕ → ℕ → ℕ → CallMemory → CallMemory → Type 0
Did untouched frame w h x y = y ≡ x
Did kept frame w h x y = FrameKept frame w h x y × (y.work ≡ x.work) × (y.marks ≡ x.marks)
Did cleared frame w h x y = let n = size_of x.aligner.cfg w h in FrameKept frame w h x y × Cleared (12 * n) 0f x.work y.work × Cleared (words_for n) 0 x.marks y.marks

-- the end of a call, with x before and y after it
pub record EstimateEnded (frame : List ℕ) (w h : ℕ) (o : Outcome) (x y : CallMemory) : Type 0 where
  pub answer : T (ends_in 1 13 o.answer)
  pub few : o.passes ≤ x.aligner.cfg.max_iter
  pub no_pass : clears (number_of o.answer) ≡ false → o.passes ≡ 0
  pub did : Did (effect_of (number_of o.answer) (eqb (length frame) (w * h))) frame w h x y

-- A call of `estimate` ends with a pose of finite numbers or a number from 1 to 13, and the number says what passes were done and what became of the memory
unfoldable pub EstimateEnds : Type 0
EstimateEnds = (c : Estimate) → EstimateEnded (frame c) (w c) (h c) (outcome c) (entering c) (leaving c)
