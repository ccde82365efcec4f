-- Calls of `estimate` one after another, as its contract admits them. Definitions only.
use Rattle.std.specs.Prelude.{ℕ, ◌*◌, ◌≡◌, List, [], ◌∷◌, eqb, length}
use Rattle.settings.specs.declared.EccConfig.{EccConfig}
use Rattle.pose.specs.Pose.{number_of}
use Rattle.aligner.specs.Aligner.{fresh_of}
use Rattle.sequences.specs.Estimates.{Estimate, frame, w, h, entering, leaving, outcome, effect_of, is_taken}
use Rattle.sequences.specs.Sequences.{Call, Memory, with_settings, no_frame, takes, last_taken, Names}

-- what a call was made with
abbrev pub call_of : Estimate → Call
call_of e = record { frame = frame e; w = w e; h = h e; cfg = (entering e).aligner.cfg; work = length (entering e).work; marks = length (entering e).marks }

abbrev pub calls_of : List Estimate → List Call
calls_of [] = []
calls_of (e ∷ es) = call_of e ∷ calls_of es

-- the memory that a call leaves, and that calls leave which begin at x
abbrev pub left_by : Estimate → Memory
left_by e = record { aligner = (leaving e).aligner; store = (leaving e).store }

abbrev pub left_at : Memory → List Estimate → Memory
left_at x [] = x
left_at x (e ∷ es) = left_at (left_by e) es

-- the first call is handed the record and the store of x, each further one those that the one before left; the settings may be others each time. So the
-- caller writes to neither
abbrev pub Chained : Memory → List Estimate → Type 0
Chained x [] = Unit {0}
Chained x (e ∷ es) = ((entering e).aligner ≡ with_settings (entering e).aligner.cfg x.aligner) × ((entering e).store ≡ x.store) × Chained (left_by e) es

-- a fresh record and any store
abbrev pub begun : EccConfig → List ℕ → Memory
begun cfg store = record { aligner = fresh_of cfg; store = store }

-- From there, after any list of calls that the contract admits: the record names the sides of the last frame that was taken, and the store begins with its
-- bytes; or none was taken, and none is held
unfoldable pub LastKept : Type 0
LastKept = (cfg : EccConfig) (store : List ℕ) (es : List Estimate) → Chained (begun cfg store) es → Names (last_taken (length store) no_frame (calls_of es)) (left_at (begun cfg store) es)

-- A call's frame is one that is taken exactly where the answer's number, and for 1 its reason, say so
unfoldable pub TakenTold : Type 0
TakenTold = (e : Estimate) → is_taken (effect_of (number_of (outcome e).answer) (eqb (length (frame e)) (w e * h e))) ≡ takes (length (entering e).store) (call_of e)
