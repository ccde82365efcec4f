-- Calls of `estimate` one after another. Each is handed the record and the store as the call before left them; the record's settings may be set
-- anew before each. Work and marks may be others each time. Definitions only.
use Rattle.std.specs.Prelude.{ℕ, ◌*◌, ◌≡◌, Bool, List, [], ◌∷◌, eqb, length, take, Some, None}
use Rattle.lists.specs.Marked.{pick}
use Rattle.settings.specs.declared.EccConfig.{EccConfig}
use Rattle.aligner.specs.Aligner.{entry_of, estimate_of, store_after}
use Rattle.aligner.specs.declared.EccAligner.{EccAligner}

-- a frame with its sides, the settings, and the lengths of work and marks
pub record Call : Type 0 where
  pub frame : List ℕ
  pub w : ℕ
  pub h : ℕ
  pub cfg : EccConfig
  pub work : ℕ
  pub marks : ℕ

-- what lies between two calls
pub record Memory : Type 0 where
  pub aligner : EccAligner
  pub store : List ℕ

abbrev pub with_settings : EccConfig → EccAligner → EccAligner
with_settings cfg a = record { cfg = cfg; prev = a.prev }

-- the memory after a call, and after calls one after another
unfoldable pub next_memory : Call → Memory → Memory
next_memory c x = record {
  aligner = (estimate_of (with_settings c.cfg x.aligner) c.frame c.w c.h x.store c.work c.marks).aligner;
  store = store_after c.frame c.w c.h x.store;
}

unfoldable pub ran : List Call → Memory → Memory
ran [] x = x
ran (c ∷ cs) x = ran cs (next_memory c x)

-- no frame, or that of a call
pub data Last : Type 0 where
  no_frame : Last
  frame_of : Call → Last

-- the frame is taken over a store of s bytes: 2, the length and 13 do not refuse it
unfoldable pub takes : ℕ → Call → Bool
takes s c = eqb (entry_of (length c.frame) c.w c.h s) 0

-- the last frame that is taken; `before` is the last one before these calls
unfoldable pub last_taken : ℕ → Last → List Call → Last
last_taken s before [] = before
last_taken s before (c ∷ cs) = last_taken s (pick (takes s c) (frame_of c) before) cs

-- the record names the frame, and the store begins with its bytes
abbrev pub Names : Last → Memory → Type 0
Names no_frame x = x.aligner.prev ≡ None
Names (frame_of c) x = (x.aligner.prev ≡ Some (record { w = c.w; h = c.h })) × (take (c.w * c.h) x.store ≡ c.frame)

-- Where record and store hold a frame, after any calls they hold the last one that was taken
unfoldable pub RanKeeps : Type 0
RanKeeps = (cs : List Call) (before : Last) (x : Memory) → Names before x → Names (last_taken (length x.store) before cs) (ran cs x)
