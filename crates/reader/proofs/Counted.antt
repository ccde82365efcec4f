-- So many turns are done, from the first run on. Assumes nothing.
use Prim.Native.Nat.{ℕ, ◌+◌}
use mathlib.Core.Path.{◌≡◌, sym, subst}
use mathlib.Core.Bool.{true, false}
use mathlib.Core.List.{List, []}
use mathlib.Core.Logic.{◌⊎◌}
use lib.ListN.{length}
use Rattle.stream.specs.Stream.{first_state}
use Rattle.stream.specs.declared.State.{State}
use Rattle.reader.specs.Run.{Next, Turned}
use Rattle.reader.specs.Turns.{Turns, none, further, Ran}
use Rattle.reader.specs.declared.Run.{Run}

pub record Counted (k m : ℕ) (bytes text held : List ℕ) (count : ℕ) (run : Run) (buf out store : List ℕ) : Type 0 where
  pub handed : List ℕ
  pub pieces : List (List ℕ)
  pub turns : Turns k m bytes text held count run buf out store handed pieces

pub counted_none : (k m : ℕ) (bytes text held : List ℕ) (st : State) → st ≡ first_state
    → Counted k m bytes text held 0 (record { at = 0; end = 0; put = 0; is_going = true; state = st }) bytes text held
counted_none k m bytes text held st e =
    subst (λ (s : State). Counted k m bytes text held 0 (record { at = 0; end = 0; put = 0; is_going = true; state = s }) bytes text held) (sym e)
    (record { handed = []; pieces = []; turns = none })

pub counted_more : {k m i j count : ℕ} {bytes text held buf buf' out out' store store' : List ℕ} {run r : Run} → Counted k m bytes text held count run buf out store
    → run.is_going ≡ true → i ≡ k → j ≡ m → Next run r (length buf) (length out) → Turned run r buf buf' out out' store store' i j
    → Counted k m bytes text held (count + 1) r buf' out' store'
counted_more {k = k} {m = m} {i = i} {j = j} {buf = buf} {buf' = buf'} {out = out} {out' = out'} {store = store} {store' = store'} {run = run} {r = r} c g p q x t =
    let u : Turned run r buf buf' out out' store store' k m =
    subst (λ (y : ℕ). Turned run r buf buf' out out' store store' k y) q (subst (λ (y : ℕ). Turned run r buf buf' out out' store store' y j) p t) in
    record { handed = _; pieces = _; turns = further c.turns g x u }

pub counted_ran : {k m count : ℕ} {bytes text held buf out store : List ℕ} {r : Run} → Counted k m bytes text held count r buf out store
    → (r.is_going ≡ false) ⊎ (count ≡ 18446744073709551615) → Ran k m bytes text held r buf out store
counted_ran {count = count} c e = record { count = count; handed = c.handed; pieces = c.pieces; turns = c.turns; ended = e }
