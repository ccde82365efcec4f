-- What is at hand and what waits after a turn. Assumes nothing.
use Prim.Native.Nat.{ℕ, zero, suc, zero-le, ◌+◌, ◌-◌, ◌≤◌}
use mathlib.Core.Path.{◌≡◌, sym, subst}
use mathlib.Core.List.{List, [], ◌∷◌, ◌++◌, append_assoc}
use native.Mathlib.Nat.{sub-zero}
use native.Mathlib.Omega.{arith}
use borrow.Author.Tests.{ltb-false}
use lib.ListN.{length, take, drop, length-append, length-drop}
use lib.Seq.{length-take-le, take_at, take-add, drop-drop, take-nil}
use Rattle.lists.specs.Lists.{put}
use Rattle.lists.proofs.Cases.{choose, pick_true, pick_false}
use Rattle.text.specs.Text.{Wrote}
use Rattle.stream.specs.declared.Step.{Step}
use Rattle.reader.specs.Run.{Took, Moved, Lined, pending, brought_of, crowded, pushed_of, line_at}
use Rattle.reader.specs.declared.Run.{Run}

-- ---- what waits

put_read : (old l : List ℕ) (a : ℕ) → a ≤ length old → take (a + length l) (put old a l) ≡ take a old ++ l
unfolding put
put_read old l a h =
    let n : length (take a old ++ l) ≡ a + length l = rw (length-append (take a old) l, length-take-le a old h) in
    rw (← append_assoc (take a old) l (drop (a + length l) old)) (take_at (take a old ++ l) (drop (a + length l) old) (a + length l) n)

wrote_read : (old new l : List ℕ) (a r : ℕ) → a ≤ length old → Wrote old a l 100 new r → take r new ≡ take a old ++ l
wrote_read old new l a r h w = rw (w.next, w.text) (put_read old l a h)

-- what is handed over first, and what waits with the line, are what waited and the line
pub line_waits : (waits r : ℕ) (l old new : List ℕ) → Lined waits r l old new → pushed_of old waits ++ take r new ≡ take waits old ++ l
unfolding pushed_of line_at
line_waits waits r l old new w =
    choose (crowded old waits)
    (λ e.
    let p : Wrote old 0 l 100 new r = subst (λ (a : ℕ). Wrote old a l 100 new r) (pick_true _ _ _ e) w in
    rw (pick_true (crowded old waits) (take waits old) [] e, wrote_read old new l 0 r zero-le p))
    (λ e.
    let p : Wrote old waits l 100 new r = subst (λ (a : ℕ). Wrote old a l 100 new r) (pick_false _ _ _ e) w in
    rw (pick_false (crowded old waits) (take waits old) [] e, wrote_read old new l waits r (omega (arith, ltb-false (length old - waits) 100 e)) p))

-- ---- what is at hand

drop_take : (u n : ℕ) (xs : List ℕ) → drop u (take n xs) ≡ take (n - u) (drop u xs)
drop_take zero n xs = rw sub-zero
drop_take (suc u) zero xs = let e : 0 - suc u ≡ 0 = omega arith in rw e
drop_take (suc u) (suc n) [] = let e : suc n - suc u ≡ n - u = omega arith in rw e (sym (take-nil (n - u)))
drop_take (suc u) (suc n) (x ∷ xs) = let e : suc n - suc u ≡ n - u = omega arith in rw e (drop_take u n xs)

module _ (run r : Run) (buf buf' : List ℕ) where
  pub moved_hand : (step : Step) → Moved run r step buf buf' → pending r buf' ≡ drop step.used (pending run buf)
  moved_hand step v =
      let u = step.used in
      let e : run.end - (run.at + u) ≡ run.end - run.at - u = omega arith in
      rw (v.start, v.end, v.bytes, e, drop_take u (run.end - run.at) (drop run.at buf), drop-drop u run.at buf)

  pub took_hand : Took run r buf buf' → pending r buf' ≡ pending run buf ++ brought_of (run.end - run.at) r buf'
  took_hand t =
      let n = run.end - run.at in
      let e : r.end - 0 ≡ n + (r.end - n) = omega (arith, t.grows) in
      rw (t.start, e, take-add n (r.end - n) buf', t.front)

pub hand_length : (run : Run) (buf : List ℕ) → run.end ≤ length buf → length (pending run buf) ≡ run.end - run.at
hand_length run buf h = length-take-le (run.end - run.at) (drop run.at buf) (omega (arith, length-drop run.at buf))
