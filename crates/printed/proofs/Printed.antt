-- What the turns of a run hand to the writes, one after another, and what the end hands over, is the text of the log of all bytes read. Assumes
-- nothing.
use Prim.Native.Nat.{ℕ, zero-le, ◌-◌, ◌≤◌}
use mathlib.Core.Path.{◌≡◌, refl, sym, ap, subst, ◌∙◌}
use mathlib.Core.Bool.{true, false, true≢false}
use mathlib.Core.List.{List, [], ◌∷◌, ◌++◌, append_assoc, append-nil}
use native.Mathlib.Omega.{arith}
use borrow.Author.Tests.{ltb-false}
use lib.ListN.{length, take, drop}
use Rattle.stream.specs.Memory.{stepped_store}
use Rattle.stream.specs.Stream.{first_state, step_of, end_of}
use Rattle.stream.specs.declared.Event.{Event}
use Rattle.stream.specs.declared.Event.TheVariants as event
use Rattle.stream.specs.declared.Step.{Step}
use Rattle.whole_log.specs.Log.{Log, line}
use Rattle.whole_log.specs.Pieces.{Reads, quiet, prints, takes, ends, breaks, all}
use Rattle.whole_log.proofs.Pieces.{whole}
use Rattle.reader.specs.Run.{handed_by, turned_by, pending, brought_of, pushed_of}
use Rattle.reader.specs.Text.{text_of, last_of}
use Rattle.reader.specs.Turns.{Turns, none, further, read_by}
use Rattle.reader.specs.declared.Run.{Run}
use Rattle.printed.specs.Printed.{bytes_of, printed_of, PrintsTheLog}
use Rattle.printed.proofs.Pending.{line_waits, moved_hand, took_hand, hand_length}
use Rattle.printed.proofs.Stays.{more_keeps, broken_stays}

-- c, then t, then b follow w; c and t are p and x
regroup : (w c t b p x : List ℕ) → c ++ t ≡ p ++ x → w ++ (p ++ (x ++ b)) ≡ (w ++ c) ++ (t ++ b)
regroup w c t b p x h = ap (λ (z : List ℕ). w ++ z) (sym (append_assoc p x b) ∙ ap (λ (z : List ℕ). z ++ b) (sym h) ∙ append_assoc c t b) ∙ sym (append_assoc w c (t ++ b))

all_more : (ps : List (List ℕ)) → all (ps ++ ([] ∷ [])) ≡ all (ps ++ [])
unfolding all
all_more [] = refl
all_more (p ∷ ps) = ap (λ (z : List ℕ). p ++ z) (all_more ps)

-- a reading from the first state, with all its text
record Told (k m : ℕ) (held : List ℕ) (ps : List (List ℕ)) (w : List ℕ) : Type 0 where
  log : Log
  read : Reads k m first_state held [] ps log
  text : bytes_of log ≡ w

told_as : {k m : ℕ} {held : List ℕ} {ps qs : List (List ℕ)} {w v : List ℕ} → Told k m held ps w → ps ≡ qs → w ≡ v → Told k m held qs v
told_as {k} {m} {held} t p w = record { log = t.log; read = subst (λ (qs : List (List ℕ)). Reads k m first_state held [] qs t.log) p t.read; text = t.text ∙ w }

module _ (k m : ℕ) (held : List ℕ) where
  -- whatever is read from here on, with the text that it gives, is read from the first state on, behind ps and w and what waits
  abbrev Goes : Run → List ℕ → List ℕ → List ℕ → List ℕ → List (List ℕ) → Type 0
  Goes run buf out store w ps =
      (qs : List (List ℕ)) (l : Log) → Reads k m run.state store (pending run buf) qs l → Told k m held (ps ++ qs) (w ++ (take run.put out ++ bytes_of l))

  module _ (run r : Run) (buf buf' out out' store store' w : List ℕ) (ps : List (List ℕ)) where
    abbrev step : Step
    step = step_of run.state (pending run buf) store k m

    -- one turn further
    goes_on : Goes run buf out store w ps → (e : Event) → step.event ≡ e → turned_by run r step buf buf' out out' e
        → store' ≡ stepped_store run.state (pending run buf) store → r.is_going ≡ true → Goes r buf' out' store' (w ++ handed_by run out e) (ps ++ read_by run r buf' e)
    unfolding handed_by read_by bytes_of
    goes_on g event.More q t s h qs l d =
        let p = brought_of (run.end - run.at) r buf' in
        let x : Reads k m run.state store (pending run buf ++ p) qs l = rw (t.0.state, s ∙ more_keeps k m run.state store (pending run buf) q, took_hand run r buf buf' t.0) at d in
        told_as (g (p ∷ qs) l (takes q x)) (sym (append_assoc ps (p ∷ []) qs)) (rw t.0.empty (regroup w (take run.put out) [] (bytes_of l) (take run.put out) [] refl))
    goes_on g event.Quiet q t s h qs l d =
        let x : Reads k m step.state (stepped_store run.state (pending run buf) store) (drop step.used (pending run buf)) qs l = rw (t.0.state, s, moved_hand run r buf buf' step t.0) at d in
        told_as (g qs l (quiet q x)) (rw (append-nil ps)) (rw (append-nil w, t.1, t.2))
    goes_on g (event.Print a) q t s h qs l d =
        let x : Reads k m step.state (stepped_store run.state (pending run buf) store) (drop step.used (pending run buf)) qs l = rw (t.0.state, s, moved_hand run r buf buf' step t.0) at d in
        told_as (g qs (line a l) (prints q x)) (rw (append-nil ps))
        (regroup w (pushed_of out run.put) (take r.put out') (bytes_of l) (take run.put out) (text_of a) (line_waits run.put r.put (text_of a) out out' t.1))
    goes_on g event.Broken q t s h qs l d = absurd (true≢false (sym h ∙ t.3))

    size_kept : (e : Event) → turned_by run r step buf buf' out out' e → length buf' ≡ length buf
    size_kept event.More t = t.0.size
    size_kept event.Quiet t = ap length t.0.bytes
    size_kept (event.Print a) t = ap length t.0.bytes
    size_kept event.Broken t = ap length t.0.bytes

  module _ (bytes text : List ℕ) where
    within : {n : ℕ} {run : Run} {buf out store w : List ℕ} {ps : List (List ℕ)} → Turns k m bytes text held n run buf out store w ps → run.end ≤ length buf
    within none = zero-le
    within (further {run = run} {r = r} {buf = buf} {buf' = buf'} {out = out} {out' = out'} {store = store} {store' = store'} {w = w} {ps = ps} t g x y) =
        omega (arith, x.end, size_kept run r buf buf' out out' store store' w ps (step_of run.state (pending run buf) store k m).event y.followed.turned)

    goes : {n : ℕ} {run : Run} {buf out store w : List ℕ} {ps : List (List ℕ)} → Turns k m bytes text held n run buf out store w ps → run.is_going ≡ true → Goes run buf out store w ps
    goes none h = λ qs l d. record { log = l; read = d; text = refl }
    goes (further {run = run} {r = r} {buf = buf} {buf' = buf'} {out = out} {out' = out'} {store = store} {store' = store'} {w = w} {ps = ps} t g x y) h =
        goes_on run r buf buf' out out' store store' w ps (goes t g) (step_of run.state (pending run buf) store k m).event refl y.followed.turned y.stored h

-- ---- the end, with document 01's memory

module _ (held : List ℕ) (size : length held ≡ 1024) where
  told_whole : {ps : List (List ℕ)} (qs : List (List ℕ)) {w v : List ℕ} → Told 12288 16 held ps w → all ps ≡ all qs → v ≡ w → v ≡ printed_of (all qs)
  told_whole {ps} qs t p v = v ∙ sym t.text ∙ ap bytes_of (whole held size ps t.log t.read) ∙ ap printed_of p

  module _ (run r : Run) (buf buf' out out' store store' w : List ℕ) (ps : List (List ℕ)) (g : Goes 12288 16 held run buf out store w ps) (fits : run.end ≤ length buf) where
    abbrev last_step : Step
    last_step = step_of run.state (pending run buf) store 12288 16

    -- a turn after which the run does not go on, and the last line
    stops_at : (e : Event) → last_step.event ≡ e → turned_by run r last_step buf buf' out out' e → r.is_going ≡ false
        → (w ++ handed_by run out e) ++ (take r.put out' ++ last_of (end_of r.state (r.end - r.at))) ≡ printed_of (all (ps ++ read_by run r buf' e))
    unfolding handed_by read_by bytes_of
    stops_at event.More q t h =
        let n = run.end - run.at in
        let z : r.end ≡ n = omega (arith, t.0.grows, ltb-false n r.end (sym t.0.going ∙ h)) in
        let b : brought_of n r buf' ≡ [] = let y : r.end - n ≡ 0 = omega (arith, z) in rw y in
        let l : end_of r.state (r.end - r.at) ≡ end_of run.state (length (pending run buf)) =
        let y : r.end - r.at ≡ length (pending run buf) = omega (arith, z, t.0.start, hand_length run buf fits) in
        rw (t.0.state, y) in
        told_whole (ps ++ (brought_of n r buf' ∷ [])) (g [] _ (ends q)) (sym (ap (λ (p : List ℕ). all (ps ++ (p ∷ []))) b ∙ all_more ps)) (rw (t.0.empty, l, append_assoc w (take run.put out) (last_of (end_of run.state (length (pending run buf))))))
    stops_at event.Quiet q t h = absurd (true≢false (sym t.3 ∙ h))
    stops_at (event.Print a) q t h = absurd (true≢false (sym t.2 ∙ h))
    stops_at event.Broken q t h =
        let b = broken_stays 12288 16 run.state store (pending run buf) q in
        let l : end_of r.state (r.end - r.at) ≡ end_of run.state (length (pending run buf)) =
        let y : r.end - r.at ≡ length (pending run buf) = omega (arith, t.0.start, t.0.end, b.0, hand_length run buf fits) in
        rw (t.0.state, b.1, y) in
        told_whole (ps ++ []) (g [] _ (breaks q)) refl (rw (append-nil w, t.1, t.2, l))

  -- the turns, and what waits before the last line
  stopped : {n : ℕ} {bytes text : List ℕ} {r : Run} {buf out store w : List ℕ} {ps : List (List ℕ)} → Turns 12288 16 bytes text held n r buf out store w ps → r.is_going ≡ false
      → w ++ (take r.put out ++ last_of (end_of r.state (r.end - r.at))) ≡ printed_of (all ps)
  stopped none h = absurd (true≢false h)
  stopped {bytes = bytes} {text = text} (further {run = run} {r = r} {buf = buf} {buf' = buf'} {out = out} {out' = out'} {store = store} {store' = store'} {w = w} {ps = ps} t g x y) h =
      stops_at run r buf buf' out out' store store' w ps (goes 12288 16 held bytes text t g) (within 12288 16 held bytes text t) (step_of run.state (pending run buf) store 12288 16).event refl y.followed.turned h

-- THE THEOREM
pub prints_the_log : PrintsTheLog
prints_the_log c h =
    let f = c.finished in
    ap (λ (z : List ℕ). f.ran.handed ++ z) (line_waits f.run.put c.waits (last_of (end_of f.run.state (f.run.end - f.run.at))) f.before c.out f.closed.lined)
    ∙ stopped c.held c.size f.ran.turns h
