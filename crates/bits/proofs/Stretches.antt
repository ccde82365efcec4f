-- A loop that goes by stretches of marked pixels: what a turn passes by, what it goes through, and that the fold over the marks goes on. Assumes nothing.
use Prim.Native.Nat.{ℕ, zero, suc, ◌+◌, ◌-◌, ◌≤◌, ◌<◌}
use mathlib.Core.Path.{◌≡◌, refl, sym, ap, ◌∙◌}
use mathlib.Core.Bool.{true, false, not}
use mathlib.Core.List.{List}
use mathlib.Core.Logic.{◌⊎◌, inl, inr}
use native.Mathlib.Omega.{arith}
use lib.Dec.{eqb}
use Rattle.lists.specs.Marked.{over_marked, over_range}
use Rattle.lists.proofs.Fold.{over_bare, over_full, range_agree}
use Rattle.lists.proofs.Grow.{get_d_tab}
use Rattle.marks.specs.Marks.{on}
use Rattle.bits.specs.Words.{bit_at, unpacked_of}
use Rattle.bits.specs.Stretches.{StretchOf}
use Rattle.bits.specs.declared.Stretch.{Stretch}
use Rattle.bits.proofs.Scan.{lt_or_le}

module _ (ws : List ℕ) (n e i : ℕ) (r : Stretch) (within : e ≤ n) (o : StretchOf ws i e r) where
  byte : (k : ℕ) → k < n → on (unpacked_of ws n) k ≡ not (eqb (bit_at ws k) 0)
  unfolding unpacked_of
  byte k h = ap (λ (b : ℕ). not (eqb b 0)) (get_d_tab n k (bit_at ws) 0 h)

  -- the pixels before the stretch are not marked, its own are
  pub stretch_bare : (k : ℕ) → i ≤ k → k < r.from → on (unpacked_of ws n) k ≡ false
  stretch_bare k h l = byte k (omega (arith, o.order, o.high)) ∙ ap (λ (b : ℕ). not (eqb b 0)) (o.bare k h l)

  pub stretch_full : (k : ℕ) → r.from ≤ k → k < r.to → on (unpacked_of ws n) k ≡ true
  stretch_full k h l = byte k (omega (arith, o.high)) ∙ ap (λ (b : ℕ). not (eqb b 0)) (o.full k h l)

  -- a turn gets further: a stretch that is there is not empty, and where there is none the end is reached
  pub stretch_further : i < e → i < r.to
  stretch_further h = by (lt_or_le r.from e)
    where
      by : (r.from < e) ⊎ (e ≤ r.from) → i < r.to
      by (inl l) = omega (arith, o.low, o.some l)
      by (inr l) = omega (arith, o.order)

  -- THE LAW: a fold over the marks goes on through the stretch and needs no test there
  pub stretch_turn : {S : Type 0} (step step' : S → ℕ → S) (s t : S) → t ≡ over_marked (on (unpacked_of ws n)) step s i → ((u : S) (k : ℕ) → k < n → step' u k ≡ step u k) →
      over_range step' t r.from (r.to - r.from) ≡ over_marked (on (unpacked_of ws n)) step s r.to
  stretch_turn {S} step step' s t so_far same =
      let m = on (unpacked_of ws n) in
      let p : r.to ≡ r.from + (r.to - r.from) = omega (arith, o.order) in
      let q : r.from ≡ i + (r.from - i) = omega (arith, o.low) in
      let bare : over_marked m step s r.from ≡ over_marked m step s i =
      ap (over_marked m step s) q ∙ over_bare m step s i (r.from - i) (λ k h l. stretch_bare k h (omega (arith, o.low))) in
      range_agree step' t r.from step (r.to - r.from) (λ u k h l. same u k (omega (arith, o.order, o.high)))
      ∙ ap (λ (u : S). over_range step u r.from (r.to - r.from)) (so_far ∙ sym bare)
      ∙ sym (ap (over_marked m step s) p ∙ over_full m step s r.from (r.to - r.from) (λ k h l. stretch_full k h (omega (arith, o.order))))

-- a bit that is read is the byte's mark
pub read_mark : (ws : List ℕ) (n i : ℕ) → i < n → eqb (bit_at ws i) 1 ≡ on (unpacked_of ws n) i
unfolding unpacked_of bit_at
read_mark ws n i h = by (bit_at ws i) (few ws i) ∙ sym (ap (λ (b : ℕ). not (eqb b 0)) (get_d_tab n i (bit_at ws) 0 h))
  where
    few : (ws : List ℕ) (i : ℕ) → bit_at ws i ≤ 1
    few ws i = omega arith

    by : (b : ℕ) → b ≤ 1 → eqb b 1 ≡ not (eqb b 0)
    by zero l = refl
    by (suc zero) l = refl
    by (suc (suc b)) l = absurd (many b l)
      where
        many : (b : ℕ) → suc (suc b) ≤ 1 → ⊥
        many b h = omega arith
