-- The log by its own equation: a record, and the log of the bytes after it. Assumes nothing.
use Prim.Native.Nat.{ℕ, zero, suc, ◌+◌, ◌≤◌, ◌<◌}
use mathlib.Core.Path.{◌≡◌, refl, ap}
use mathlib.Core.Bool.{Bool, true, false}
use mathlib.Core.List.{List}
use native.Mathlib.Omega.{arith}
use lib.Dec.{eqb}
use lib.ListN.{length, drop, length-drop}
use Rattle.lists.specs.Marked.{pick}
use Rattle.aligner.specs.Aligner.{fresh_of, estimate_of, store_after}
use Rattle.aligner.specs.declared.EccAligner.{EccAligner}
use Rattle.records.specs.Reading.{next_of}
use Rattle.records.specs.declared.Record.{Record}
use Rattle.records.specs.declared.Record.TheVariants.{More, Settings, Frame, Large, Other, Broken}
use Rattle.lines.specs.Lines.{line_of}
use Rattle.stream.specs.Stream.{pixels_of}
use Rattle.stream.specs.declared.End.TheVariants.{Done}
use Rattle.whole_log.specs.Log.{line, last, Reader, past, from, log_n, log_from}
use Rattle.lists.proofs.Cases.{pick_rest, some}

-- two readers agree on what is shorter than n
abbrev Agree : ℕ → Reader → Reader → Type 0
Agree n g h = (a : EccAligner) (store : List ℕ) (f : ℕ) (s : List ℕ) → length s < n → g a store f s ≡ h a store f s

module _ (k m : ℕ) (g h : Reader) (n : ℕ) (same : Agree n g h) (a : EccAligner) (store : List ℕ) (f : ℕ) where
  past_same : (large : Bool) (i : ℕ) (s : List ℕ) → length s < n → past (g a store) large i f s ≡ past (h a store) large i f s
  unfolding past
  past_same large i s l =
      let d : length (drop i s) < n = omega (arith, length-drop i s) in
      rw (same a store (f + 1) (drop i s) d, same a store f (drop i s) d)

  from_same : (s : List ℕ) (r : Record) → length s ≤ n → 0 < length s → from k m g a store f s r ≡ from k m h a store f s r
  unfolding from
  from_same s More l z = refl
  from_same s (Settings cfg) l z = same (fresh_of cfg) store f (drop 20 s) (omega (arith, length-drop 20 s))
  from_same s (Frame w i j) l z =
      let reply = estimate_of a (pixels_of s j) w i store k m in
      ap (line (line_of f reply.outcome w i))
      (same reply.aligner (store_after (pixels_of s j) w i store) (f + 1) (drop (10 + j) s) (omega (arith, length-drop (10 + j) s)))
  from_same s (Large j) l z = past_same true _ (drop 6 s) (omega (arith, length-drop 6 s))
  from_same s (Other j) l z = past_same false _ (drop 6 s) (omega (arith, length-drop 6 s))
  from_same s Broken l z = refl

module _ (k m : ℕ) where
  -- the log is the same however many records are allowed, if they are enough
  enough : (t u : ℕ) (a : EccAligner) (store : List ℕ) (f : ℕ) (s : List ℕ) → length s < t → length s < u → log_n k m t a store f s ≡ log_n k m u a store f s
  unfolding log_n
  enough zero u a store f s p q = absurd (omega arith)
  enough (suc t) zero a store f s p q = absurd (omega arith)
  enough (suc t) (suc u) a store f s p q =
      pick_rest _ _ _ _
      (λ e.
      from_same k m (log_n k m t) (log_n k m u) (length s) (λ a' x' f' s' l. enough t u a' x' f' s' (omega arith) (omega arith)) a store f s (next_of s) (omega arith) (some e))

  -- THE LAW
  pub log_is : (a : EccAligner) (store : List ℕ) (f : ℕ) (s : List ℕ) →
      log_from k m a store f s ≡ pick (eqb (length s) 0) (last (Done f)) (from k m (log_from k m) a store f s (next_of s))
  unfolding log_from log_n
  log_is a store f s =
      pick_rest _ _ _ _
      (λ e.
      from_same k m (log_n k m (length s)) (log_from k m) (length s) (λ a' x' f' s' l. enough (length s) (suc (length s')) a' x' f' s' l (omega arith)) a store f s (next_of s) (omega arith) (some e))
