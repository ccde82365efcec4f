-- After any calls of `estimate` record and store hold the last frame that was taken. Assumes nothing.
use Prim.Native.Nat.{ℕ, ◌*◌}
use mathlib.Core.Path.{◌≡◌, refl, sym, subst}
use mathlib.Core.List.{List, [], ◌∷◌}
use native.Mathlib.Omega.{arith}
use borrow.Author.Tests.{eqb-true}
use lib.Dec.{eqb}
use lib.ListN.{length}
use Rattle.lists.specs.Marked.{pick}
use Rattle.lists.proofs.Cases.{choose}
use Rattle.lists.proofs.Put.{length_put, take_put_front}
use Rattle.settings.specs.declared.EccConfig.{EccConfig}
use Rattle.pose.specs.Pose.{number_of}
use Rattle.aligner.specs.Aligner.{entry_of, estimate_of, store_after}
use Rattle.aligner.specs.declared.EccAligner.{EccAligner}
use Rattle.aligner.specs.declared.Reply.{Reply}
use Rattle.aligner.proofs.Numbers.{taken}
use Rattle.sequences.specs.Estimates.{Estimate, frame, w, h, entering, effect_of, is_taken}
use Rattle.sequences.specs.Sequences.{Call, Memory, with_settings, next_memory, ran, Last, no_frame, frame_of, takes, last_taken, Names, RanKeeps}
use Rattle.sequences.specs.Chains.{call_of, calls_of, left_by, left_at, Chained, begun, LastKept, TakenTold}
use Rattle.sequences.proofs.Estimates.{effect_told}

-- ---- one call

-- the settings play no part in what is held
settings_aside : (l : Last) (x : Memory) (cfg : EccConfig) → Names l x → Names l (record { aligner = with_settings cfg x.aligner; store = x.store })
settings_aside no_frame x cfg n = n
settings_aside (frame_of c) x cfg n = n

module _ (c : Call) (x : Memory) where
  abbrev entry : ℕ
  entry = entry_of (length c.frame) c.w c.h (length x.store)

  names_next : (l : Last) → Names l x → Names (pick (takes (length x.store) c) (frame_of c) l) (next_memory c x)
  unfolding next_memory takes estimate_of store_after pick
  names_next l n =
      choose (eqb entry 0)
      (λ yes. rw yes (refl, take_put_front x.store c.frame (c.w * c.h) (taken _ c.w c.h (length x.store) (eqb-true entry 0 yes)).2))
      (λ no. rw no (settings_aside l x c.cfg n))

  length_next : length (next_memory c x).store ≡ length x.store
  unfolding next_memory store_after pick
  length_next =
      choose (eqb entry 0)
      (λ yes. let p = taken _ c.w c.h (length x.store) (eqb-true entry 0 yes) in rw yes (length_put x.store 0 c.frame (omega (arith, p.2, p.3))))
      (λ no. rw no refl)

-- ---- calls one after another

pub ran_keeps : RanKeeps
unfolding RanKeeps ran last_taken
ran_keeps [] l x n = n
ran_keeps (c ∷ cs) l x n =
    let l' = pick (takes (length x.store) c) (frame_of c) l in
    subst (λ (s : ℕ). Names (last_taken s l' cs) (ran cs (next_memory c x))) (length_next c x) (ran_keeps cs l' (next_memory c x) (names_next c x l n))

-- ---- as the contract admits them

is_next : {a : EccAligner} {store store' : List ℕ} {r : Reply} (c : Call) (x : Memory) → a ≡ with_settings c.cfg x.aligner → store ≡ x.store →
    r ≡ estimate_of a c.frame c.w c.h store c.work c.marks → store' ≡ store_after c.frame c.w c.h store → ◌≡◌ {A = Memory} (record { aligner = r.aligner; store = store' }) (next_memory c x)
unfolding next_memory
is_next c x p q e f = rw (e, f, p, q)

left_ran : (es : List Estimate) (x : Memory) → Chained x es → left_at x es ≡ ran (calls_of es) x
unfolding ran
left_ran [] x c = refl
left_ran (e ∷ es) x c =
    subst (λ (y : Memory). left_at (left_by e) es ≡ ran (calls_of es) y) (is_next (call_of e) x c.0 c.1 e.admitted.0 e.admitted.1.0) (left_ran es (left_by e) c.2)

pub last_kept : LastKept
unfolding LastKept RanKeeps
last_kept cfg store es c = let x = begun cfg store in rw (left_ran es x c) (ran_keeps (calls_of es) no_frame x refl)

pub taken_told : TakenTold
unfolding TakenTold takes
taken_told e = subst (λ (r : Reply). is_taken (effect_of (number_of r.outcome.answer) (eqb (length (frame e)) (w e * h e))) ≡ takes (length (entering e).store) (call_of e)) (sym e.admitted.0) (effect_told (entering e) (frame e) (w e) (h e))
