-- What stands in the store at first does not matter: nothing is remembered, and only the bytes of a previous frame are looked at. Assumes nothing.
use Rattle.std.specs.Prelude.{Option, Some, None}
use Prim.Native.Nat.{ℕ, zero, suc, ◌+◌, ◌*◌}
use mathlib.Core.Path.{◌≡◌, refl, sym, ap, ap₂, subst, ◌∙◌}
use mathlib.Core.Bool.{Bool, true, false}
use mathlib.Core.List.{List}
use native.Mathlib.Omega.{arith}
use borrow.Author.Tests.{eqb-true}
use lib.Dec.{eqb, lit≤}
use lib.ListN.{length, take, drop}
use Rattle.lists.specs.Lists.{put}
use Rattle.lists.specs.Marked.{pick}
use Rattle.lists.proofs.Cases.{pick_agree}
use Rattle.lists.proofs.Put.{length_put, take_put_front}
use Rattle.settings.specs.declared.EccConfig.{EccConfig}
use Rattle.alignment.specs.Aligned.{aligned_of}
use Rattle.aligner.specs.Aligner.{fresh_of, entry_of, known_of, answer_of, estimate_of, store_after, known_by}
use Rattle.aligner.specs.declared.EccAligner.{EccAligner}
use Rattle.aligner.proofs.Numbers.{taken}
use Rattle.records.specs.Reading.{next_of}
use Rattle.records.specs.declared.Record.{Record}
use Rattle.records.specs.declared.Record.TheVariants.{More, Settings, Frame, Large, Other, Broken}
use Rattle.lines.specs.Lines.{line_of}
use Rattle.stream.specs.Stream.{pixels_of}
use Rattle.whole_log.specs.Log.{line, Reader, past, from, log_n, log_from}
use Rattle.lists.proofs.Cases.{choose, passed}
use Rattle.settings.specs.declared.Sides.{Sides}

-- two stores that an aligner cannot tell apart: of one length, with the same previous frame, if there is one
abbrev pub Alike : EccAligner → List ℕ → List ℕ → Type 0
Alike a x y = (length x ≡ length y) × ((s : Sides) → a.prev ≡ Some s → take (s.w * s.h) x ≡ take (s.w * s.h) y)

-- ---- the aligner

-- sides, or d where there are none; and 1 where there are
abbrev sides_or : Sides → Option Sides → Sides
sides_or d None = d
sides_or d (Some s) = s

abbrev given : Option Sides → ℕ
given None = 0
given (Some s) = 1

-- a previous frame of the sides w and h
remembered : (p : Option Sides) (w h : ℕ) → known_by p w h ≡ 0 → p ≡ Some (record { w = w; h = h })
unfolding known_by
remembered None w h e = absurd (omega (arith, e))
remembered (Some s) w h e =
    let q = passed (eqb s.w w) _ 12 (lit≤ tt) e in
    let r = passed (eqb s.h h) 0 12 (lit≤ tt) q.1 in
    ap₂ (λ (a b : ℕ). Some (record { w = a; h = b })) (eqb-true s.w w q.0) (eqb-true s.h h r.0)

module _ (k m : ℕ) (a : EccAligner) (frame : List ℕ) (w h : ℕ) (x y : List ℕ) (same : Alike a x y) where
  template_alike : known_of a w h ≡ 0 → take (w * h) x ≡ take (w * h) y
  unfolding known_of
  template_alike e = same.1 (record { w = w; h = h }) (remembered a.prev w h e)

  answer_alike : answer_of a frame w h x k m ≡ answer_of a frame w h y k m
  unfolding answer_of
  answer_alike =
      pick_agree _ _ _ _ _ _ refl (λ e. ap (λ (t : List ℕ). aligned_of t frame w h a.cfg k m) (template_alike (eqb-true (known_of a w h) 0 e))) (λ e. refl)

  estimate_alike : estimate_of a frame w h x k m ≡ estimate_of a frame w h y k m
  unfolding estimate_of
  estimate_alike = rw (same.0, answer_alike)

  store_alike : Alike (estimate_of a frame w h x k m).aligner (store_after frame w h x) (store_after frame w h y)
  unfolding estimate_of store_after pick
  store_alike =
      choose (eqb (entry_of (length frame) w h (length x)) 0)
      (λ e.
      let q = taken (length frame) w h (length x) (eqb-true _ _ e) in
      rw (← same.0, e) (
        length_put x 0 frame (omega (arith, q.2, q.3)) ∙ same.0 ∙ sym (length_put y 0 frame (omega (arith, q.2, q.3, same.0))),
        λ s z. subst (λ (s : Sides). take (s.w * s.h) (put x 0 frame) ≡ take (s.w * s.h) (put y 0 frame)) (ap (sides_or s) z)
            (take_put_front x frame (w * h) q.2 ∙ sym (take_put_front y frame (w * h) q.2)),
      ))
      (λ e. rw (← same.0, e) same)

-- ---- the log

-- a reader for which alike stores are one
abbrev Blind : Reader → Type 0
Blind rec = (a : EccAligner) (x y : List ℕ) → Alike a x y → (f : ℕ) (s : List ℕ) → rec a x f s ≡ rec a y f s

fresh_alike : (cfg : EccConfig) (x y : List ℕ) → length x ≡ length y → Alike (fresh_of cfg) x y
fresh_alike cfg x y e = (e, λ s z. let n : given None ≡ given (Some s) = ap given z in absurd (omega (arith, n)))

module _ (k m : ℕ) (rec : Reader) (blind : Blind rec) (a : EccAligner) (x y : List ℕ) (same : Alike a x y) (f : ℕ) where
  past_alike : (large : Bool) (n : ℕ) (s : List ℕ) → past (rec a x) large n f s ≡ past (rec a y) large n f s
  unfolding past
  past_alike large n s = rw (blind a x y same (f + 1) (drop n s), blind a x y same f (drop n s))

  from_alike : (s : List ℕ) (r : Record) → from k m rec a x f s r ≡ from k m rec a y f s r
  unfolding from
  from_alike s More = refl
  from_alike s (Settings cfg) = blind (fresh_of cfg) x y (fresh_alike cfg x y same.0) f (drop 20 s)
  from_alike s (Frame w h n) =
      let p = pixels_of s n in
      let e = estimate_alike k m a p w h x y same in
      let b = blind (estimate_of a p w h x k m).aligner (store_after p w h x) (store_after p w h y) (store_alike k m a p w h x y same) (f + 1) (drop (10 + n) s) in
      ap (line (line_of f (estimate_of a p w h x k m).outcome w h)) b ∙ rw e
  from_alike s (Large n) = past_alike true _ (drop 6 s)
  from_alike s (Other n) = past_alike false _ (drop 6 s)
  from_alike s Broken = refl

log_alike : (k m t : ℕ) → Blind (log_n k m t)
unfolding log_n
log_alike k m zero a x y same f s = refl
log_alike k m (suc t) a x y same f s = rw (from_alike k m (log_n k m t) (log_alike k m t) a x y same f s (next_of s))

-- THE LAW
pub any_store : (k m : ℕ) (cfg : EccConfig) (x y : List ℕ) → length x ≡ length y → (f : ℕ) (s : List ℕ) → log_from k m (fresh_of cfg) x f s ≡ log_from k m (fresh_of cfg) y f s
unfolding log_from
any_store k m cfg x y e f s = log_alike k m (suc (length s)) (fresh_of cfg) x y (fresh_alike cfg x y e) f s
