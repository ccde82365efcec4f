-- Folds over marked places: only the marks and what stands at marked places count. Assumes nothing.
use Prim.Native.Nat.{ℕ, zero, suc, ◌+◌, ◌-◌, ◌≤◌, ◌<◌}
use mathlib.Core.Path.{◌≡◌, refl, sym, ap, ◌∙◌, subst}
use mathlib.Core.Bool.{Bool, true, false, true≢false}
use mathlib.Core.Logic.{◌⊎◌, inl, inr}
use native.Mathlib.Nat.{eq-or-lt_of_le, le_of_suc-le-suc}
use native.Mathlib.Numerals.{add-one}
use native.Mathlib.Omega.{arith}
use Rattle.lists.specs.Marked.{pick, over_marked, over_range, count_marked}
use Rattle.lists.proofs.Cases.{pick_true, pick_false, pick_agree, pick_part}

module _ {S : Type 0} (m : ℕ → Bool) (step : S → ℕ → S) (s : S) where
  pub over_none : over_marked m step s 0 ≡ s
  unfolding over_marked
  over_none = refl

  pub over_more : (i : ℕ) → over_marked m step s (i + 1) ≡ pick (m i) (step (over_marked m step s i) i) (over_marked m step s i)
  unfolding over_marked
  over_more i = rw add-one

  -- the turn of a loop at a marked place, and at another
  pub over_marked_lem : (i : ℕ) → m i ≡ true → over_marked m step s (i + 1) ≡ step (over_marked m step s i) i
  over_marked_lem i e = over_more i ∙ pick_true (m i) _ _ e

  pub over_passed : (i : ℕ) → m i ≡ false → over_marked m step s (i + 1) ≡ over_marked m step s i
  over_passed i e = over_more i ∙ pick_false (m i) _ _ e

  -- places with no mark, from a on, change nothing
  pub over_bare : (a k : ℕ) → ((i : ℕ) → a ≤ i → i < a + k → m i ≡ false) → over_marked m step s (a + k) ≡ over_marked m step s a
  over_bare a zero e = ap (over_marked m step s) (nil a)
    where
      nil : (a : ℕ) → a + 0 ≡ a
      nil a = omega arith
  over_bare a (suc k) e =
      ap (over_marked m step s) (next a k)
      ∙ over_passed (a + k) (e (a + k) (omega arith) (omega arith))
      ∙ over_bare a k (λ i h l. e i h (omega arith))
    where
      next : (a k : ℕ) → a + suc k ≡ a + k + 1
      next a k = omega arith

  -- places that are all marked, from a on, are gone through one by one
  pub over_full : (a k : ℕ) → ((i : ℕ) → a ≤ i → i < a + k → m i ≡ true) → over_marked m step s (a + k) ≡ over_range step (over_marked m step s a) a k
  unfolding over_range
  over_full a zero e = ap (over_marked m step s) (nil a)
    where
      nil : (a : ℕ) → a + 0 ≡ a
      nil a = omega arith
  over_full a (suc k) e =
      ap (over_marked m step s) (next a k)
      ∙ over_marked_lem (a + k) (e (a + k) (omega arith) (omega arith))
      ∙ ap (λ (t : S). step t (a + k)) (over_full a k (λ i h l. e i h (omega arith)))
    where
      next : (a k : ℕ) → a + suc k ≡ a + k + 1
      next a k = omega arith

-- ---- a range, place by place: the loop from a on is at the place i
module _ {S : Type 0} (step : S → ℕ → S) (s : S) (a : ℕ) where
  pub range_none : s ≡ over_range step s a (a - a)
  unfolding over_range
  range_none = ap (over_range step s a) (sym (nil a))
    where
      nil : (a : ℕ) → a - a ≡ 0
      nil a = omega arith

  pub range_turn : (i : ℕ) (t : S) → a ≤ i → t ≡ over_range step s a (i - a) → step t i ≡ over_range step s a (i + 1 - a)
  unfolding over_range
  range_turn i t h e =
      let p : a + (i - a) ≡ i = omega arith in
      let q : i + 1 - a ≡ suc (i - a) = omega arith in
      ap (λ (u : S). step u i) e ∙ ap (step (over_range step s a (i - a))) (sym p) ∙ ap (over_range step s a) (sym q)

  -- steps that agree there
  pub range_agree : (step' : S → ℕ → S) (k : ℕ) → ((t : S) (i : ℕ) → a ≤ i → i < a + k → step t i ≡ step' t i) → over_range step s a k ≡ over_range step' s a k
  unfolding over_range
  range_agree step' zero e = refl
  range_agree step' (suc k) e = e _ (a + k) (omega arith) (omega arith) ∙ ap (λ (t : S). step' t (a + k)) (range_agree step' k (λ t i h l. e t i h (omega arith)))

-- THE LAW: the same marks, and steps that agree at marked places, give the same fold
pub over_agree : {S : Type 0} (m m' : ℕ → Bool) (step step' : S → ℕ → S) (s : S) (n : ℕ) → ((i : ℕ) → i < n → m i ≡ m' i) → ((t : S) (i : ℕ) → i < n → m i ≡ true → step t i ≡ step' t i) →
    over_marked m step s n ≡ over_marked m' step' s n
unfolding over_marked
over_agree m m' step step' s zero e f = refl
over_agree {S} m m' step step' s (suc n) e f =
    let h = over_agree m m' step step' s n (λ i l. e i (omega arith)) (λ t i l. f t i (omega arith)) in
    pick_agree (m n) (m' n) (step (over_marked m step s n) n) (step' (over_marked m' step' s n) n) (over_marked m step s n) (over_marked m' step' s n) (e n (omega arith))
    (λ c. f (over_marked m step s n) n (omega arith) c ∙ ap (λ (t : S). step' t n) h) (λ c. h)

-- a part p of what a fold carries, where p of a step depends on p alone, is a fold of its own
pub over_part : {S T : Type 0} (p : S → T) (m : ℕ → Bool) (step : S → ℕ → S) (step' : T → ℕ → T) (s : S) (t : T) (n : ℕ) → p s ≡ t →
    ((u : S) (i : ℕ) → i < n → m i ≡ true → p (step u i) ≡ step' (p u) i) →
    p (over_marked m step s n) ≡ over_marked m step' t n
unfolding over_marked
over_part p m step step' s t zero e f = e
over_part {S} {T} p m step step' s t (suc n) e f =
    let so_far = over_part p m step step' s t n e (λ u i l. f u i (omega arith)) in
    pick_part p (m n) (step (over_marked m step s n) n) (over_marked m step s n)
    ∙ pick_agree (m n) (m n) (p (step (over_marked m step s n) n)) (step' (over_marked m step' t n) n) (p (over_marked m step s n)) (over_marked m step' t n) refl
    (λ c. f (over_marked m step s n) n (omega arith) c ∙ ap (λ (v : T). step' v n) so_far) (λ c. so_far)

-- ---- by how many are marked

-- one more place adds at most one
counted_turn : (m : ℕ → Bool) (n : ℕ) → (count_marked m n ≤ count_marked m (n + 1)) × (count_marked m (n + 1) ≤ count_marked m n + 1) × (m n ≡ true → 0 < count_marked m (n + 1))
counted_turn m n = by (m n) refl
  where
    by : (b : Bool) → m n ≡ b → (count_marked m n ≤ count_marked m (n + 1)) × (count_marked m (n + 1) ≤ count_marked m n + 1) × (b ≡ true → 0 < count_marked m (n + 1))
    by true e = let t = over_marked_lem m (λ k i. k + 1) 0 n e in (omega arith, omega arith, λ y. omega arith)
    by false e = let t = over_passed m (λ k i. k + 1) 0 n e in (omega arith, omega arith, λ y. absurd (true≢false (sym y)))

pub counted_le : (m : ℕ → Bool) (n : ℕ) → count_marked m n ≤ n
counted_le m zero = omega (arith, over_none m (λ k i. k + 1) 0)
counted_le m (suc n) = subst (λ (k : ℕ). count_marked m k ≤ k) (add-one n) (omega (arith, (counted_turn m n).1, counted_le m n))

-- where a place is marked the count is above 0
pub counted_some : (m : ℕ → Bool) (n i : ℕ) → i < n → m i ≡ true → 0 < count_marked m n
counted_some m zero i l e = absurd (omega arith)
counted_some m (suc n) i l e = subst (λ (k : ℕ). 0 < count_marked m k) (add-one n) (by (eq-or-lt_of_le (le_of_suc-le-suc l)) (λ q. counted_some m n i q e))
  where
    by : (i ≡ n) ⊎ (i < n) → (i < n → 0 < count_marked m n) → 0 < count_marked m (n + 1)
    by (inl q) f = (counted_turn m n).2 (subst (λ (k : ℕ). m k ≡ true) q e)
    by (inr q) f = omega (arith, (counted_turn m n).0, f q)

-- THE LAW: what the start has with the count 0, and what a step at a marked place keeps with the count one up, the fold has with the count of all marked places
module _ {S : Type 0} (P : S → ℕ → Type 0) (m : ℕ → Bool) (step : S → ℕ → S) (s : S) (starts : P s 0) where
  pub over_counted : (n : ℕ) → ((t : S) (i c : ℕ) → i < n → c ≤ i → m i ≡ true → P t c → P (step t i) (suc c)) → P (over_marked m step s n) (count_marked m n)
  over_counted zero keeps = rw (over_none m step s, over_none m (λ k i. k + 1) 0) starts
  over_counted (suc n) keeps =
      subst (λ (k : ℕ). P (over_marked m step s k) (count_marked m k)) (add-one n)
      (by (m n) refl (keeps (over_marked m step s n) n (count_marked m n) (omega arith) (counted_le m n)) (over_counted n (λ t i c l. keeps t i c (omega arith))))
    where
      by : (b : Bool) → m n ≡ b → (m n ≡ true → P (over_marked m step s n) (count_marked m n) → P (step (over_marked m step s n) n) (suc (count_marked m n))) → P (over_marked m step s n) (count_marked m n) →
          P (over_marked m step s (n + 1)) (count_marked m (n + 1))
      by true e k h = rw (over_marked_lem m step s n e, over_marked_lem m (λ k i. k + 1) 0 n e, add-one (count_marked m n)) (k e h)
      by false e k h = rw (over_passed m step s n e, over_passed m (λ k i. k + 1) 0 n e) h
