-- No line of a log has number 7: each belongs to a call of the aligner, over a store of bytes, or to a frame that was too large. Assumes nothing.
use Prim.Native.Nat.{ℕ, zero, suc, ◌+◌}
use mathlib.Core.Path.{◌≡◌}
use mathlib.Core.Bool.{Bool, true, false, not}
use mathlib.Core.List.{List}
use lib.Dec.{T}
use lib.ListN.{length, drop}
use Rattle.lists.specs.Premises.{AreBytes}
use Rattle.lists.proofs.Bytes.{bytes_take, bytes_drop, bytes_put, bytes_zeros}
use Rattle.lists.proofs.Cases.{pick_both}
use Rattle.pose.specs.declared.Outcome.{Outcome}
use Rattle.settings.specs.Settings.{defaults_of}
use Rattle.aligner.specs.Aligner.{fresh_of, store_after}
use Rattle.aligner.specs.declared.EccAligner.{EccAligner}
use Rattle.records.specs.Reading.{next_of}
use Rattle.records.specs.declared.Record.{Record}
use Rattle.records.specs.declared.Record.TheVariants.{More, Settings, Frame, Large, Other, Broken}
use Rattle.lines.specs.Lines.{line_of}
use Rattle.stream.specs.Stream.{too_large, pixels_of}
use Rattle.whole_log.specs.Log.{Log, Reader, past, from, log_n, log_from, log_of}
use Rattle.seven.specs.Log.{EveryLine, LogNeverSeven}
use Rattle.seven.proofs.Calls.{given, NotNumber, refused_as, estimated_other}
use Rattle.refusals.specs.declared.Refusal.TheVariants.{StoreTooShort}

store_bytes : (frame : List ℕ) (w h : ℕ) (store : List ℕ) → AreBytes frame → AreBytes store → AreBytes (store_after frame w h store)
unfolding store_after
store_bytes frame w h store bf bs = pick_both AreBytes _ _ _ (bytes_put store 0 frame bs bf) bs

module _ (k : ℕ) (free : T (not (given k))) where
  abbrev OtherLog : Log → Type 0
  OtherLog = EveryLine (λ l. l.number ≡ k → ⊥)

  line_other : (f : ℕ) (o : Outcome) (w h : ℕ) → NotNumber k o → (line_of f o w h).number ≡ k → ⊥
  unfolding line_of
  line_other f o w h n = n

  -- what a reader says of bytes, with a store of bytes
  abbrev Reads : Reader → Type 0
  Reads rec = (a : EccAligner) (store : List ℕ) (f : ℕ) (s : List ℕ) → AreBytes store → AreBytes s → OtherLog (rec a store f s)

  module _ (work marks : ℕ) (rec : Reader) (reads : Reads rec) (a : EccAligner) (store : List ℕ) (f : ℕ) (bs : AreBytes store) where
    past_other : (large : Bool) (n : ℕ) (s : List ℕ) → AreBytes s → OtherLog (past (rec a store) large n f s)
    unfolding past
    past_other large n s b =
        let rest = bytes_drop n s b in
        pick_both OtherLog _ _ _ tt
        (pick_both OtherLog _ _ _ (line_other f too_large 0 0 (refused_as k free StoreTooShort tt), reads a store (f + 1) (drop n s) bs rest) (reads a store f (drop n s) bs rest))

    from_other : (s : List ℕ) → AreBytes s → (r : Record) → OtherLog (from work marks rec a store f s r)
    unfolding from
    from_other s b More = tt
    from_other s b (Settings cfg) = reads (fresh_of cfg) store f (drop 20 s) bs (bytes_drop 20 s b)
    from_other s b (Frame w h n) =
        let p = bytes_take n (drop 10 s) (bytes_drop 10 s b) in (
          line_other f _ w h (estimated_other k free a (pixels_of s n) w h store work marks p bs),
          reads _ (store_after (pixels_of s n) w h store) (f + 1) (drop (10 + n) s) (store_bytes (pixels_of s n) w h store p bs) (bytes_drop (10 + n) s b),
        )
    from_other s b (Large n) = past_other true n (drop 6 s) (bytes_drop 6 s b)
    from_other s b (Other n) = past_other false n (drop 6 s) (bytes_drop 6 s b)
    from_other s b Broken = tt

  log_other : (work marks t : ℕ) → Reads (log_n work marks t)
  unfolding log_n
  log_other work marks zero a store f s bs b = tt
  log_other work marks (suc t) a store f s bs b = pick_both OtherLog _ _ _ tt (from_other work marks (log_n work marks t) (log_other work marks t) a store f bs s b (next_of s))

pub log_never : LogNeverSeven
unfolding log_of log_from
log_never s b = log_other _ tt 12288 16 (suc (length s)) (fresh_of defaults_of) _ 0 s (bytes_zeros 1024) b
