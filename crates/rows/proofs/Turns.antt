-- The rows that hold a mark: start and turns of their definition, that it gives the least and the greatest, and what a row's mark says of its pixels. Assumes nothing.
use Rattle.std.specs.Prelude.{None, Some, Option}
use Prim.Native.Nat.{ℕ, zero, suc, ◌+◌, ◌-◌, ◌*◌, ◌≤◌, ◌<◌}
use mathlib.Core.Path.{◌≡◌, refl, sym, ap, ap₂, ◌∙◌, subst}
use mathlib.Core.Bool.{Bool, true, false, true≢false}
use mathlib.Core.List.{List}
use mathlib.Core.Logic.{◌⊎◌, inl, inr}
use native.Mathlib.Nat.{eq-or-lt_of_le, le_of_suc-le-suc}
use native.Mathlib.Numerals.{add-one}
use native.Mathlib.Omega.{arith}
use lib.Dec.{ltb}
use borrow.Author.Tests.{lt-ltb, le-ltb}
use Rattle.lists.specs.Marked.{pick, count_marked}
use Rattle.lists.proofs.Cases.{choose, pick_true, pick_false}
use Rattle.lists.proofs.Fold.{over_none, over_bare, over_agree, counted_some}
use Rattle.marks.specs.Marks.{on}
use Rattle.bits.specs.Words.{unpacked_of}
use Rattle.bits.specs.Stretches.{StretchOf}
use Rattle.bits.specs.declared.Stretch.{Stretch}
use Rattle.bits.proofs.Scan.{lt_or_le}
use Rattle.bits.proofs.Stretches.{stretch_bare, stretch_full}
use Rattle.rows.specs.Rows.{row_marked, with_row, marked_rows_of, Told, LeastAndGreatest}
use Rattle.rows.specs.declared.Rows.{Rows}

-- ---- one row and its pixels
module _ (ms : List ℕ) (w y : ℕ) where
  pub row_some : (x : ℕ) → x < w → on ms (y * w + x) ≡ true → row_marked ms w y ≡ true
  unfolding row_marked
  row_some x l e = lt-ltb 0 _ (counted_some (λ x. on ms (y * w + x)) w x l e)

  pub row_none : ((x : ℕ) → x < w → on ms (y * w + x) ≡ false) → row_marked ms w y ≡ false
  unfolding row_marked
  row_none e =
      let m : ℕ → Bool = λ x. on ms (y * w + x) in
      let none : count_marked m (0 + w) ≡ 0 = over_bare m (λ k i. k + 1) 0 0 w (λ i h l. e i (omega arith)) ∙ over_none m (λ k i. k + 1) 0 in
      let q : 0 + w ≡ w = omega arith in
      ap (ltb 0) (sym (ap (count_marked m) q) ∙ none)

  pub row_bare : row_marked ms w y ≡ false → (x : ℕ) → x < w → on ms (y * w + x) ≡ false
  row_bare e x l = choose (on ms (y * w + x)) (λ t. absurd (true≢false (sym (row_some x l t) ∙ e))) (λ f. f)

-- as the row's next stretch of marked pixels tells it: that begins within the row, or there is none
pub row_told : (ws : List ℕ) (n w y : ℕ) → y * w + w ≤ n → (r : Stretch) → StretchOf ws (y * w) (y * w + w) r → ltb r.from (y * w + w) ≡ row_marked (unpacked_of ws n) w y
row_told ws n w y fits r o = by (lt_or_le r.from (y * w + w))
  where
    by : (r.from < y * w + w) ⊎ (y * w + w ≤ r.from) → ltb r.from (y * w + w) ≡ row_marked (unpacked_of ws n) w y
    by (inl l) =
        let x = r.from - y * w in
        let q : r.from ≡ y * w + x = omega (arith, o.low) in
        lt-ltb r.from _ l ∙ sym (row_some (unpacked_of ws n) w y x (omega arith) (subst (λ (i : ℕ). on (unpacked_of ws n) i ≡ true) q (stretch_full ws n (y * w + w) (y * w) r fits o r.from (omega arith) (o.some l))))
    by (inr l) = le-ltb r.from _ l ∙ sym (row_none (unpacked_of ws n) w y (λ x h. stretch_bare ws n (y * w + w) (y * w) r fits o (y * w + x) (omega arith) (omega arith)))

-- a first marked row is the first and the last
row_alone : (y : ℕ) → with_row None y ≡ Some (record { first = y; last = y })
unfolding with_row
row_alone y = ap₂ (λ (a b : ℕ). Some (record { first = a; last = b })) (omega arith) (omega arith)

-- ---- row after row
module _ (ms : List ℕ) (w : ℕ) where
  pub rows_start : marked_rows_of ms w 0 ≡ None
  unfolding marked_rows_of
  rows_start = refl

  rows_turn : (y : ℕ) → marked_rows_of ms w (y + 1) ≡ pick (row_marked ms w y) (with_row (marked_rows_of ms w y) y) (marked_rows_of ms w y)
  unfolding marked_rows_of
  rows_turn y = ap (marked_rows_of ms w) (add-one y)

  pub rows_marked : (y : ℕ) → row_marked ms w y ≡ true → marked_rows_of ms w (y + 1) ≡ with_row (marked_rows_of ms w y) y
  rows_marked y e = rows_turn y ∙ pick_true (row_marked ms w y) _ _ e

  pub rows_passed : (y : ℕ) → row_marked ms w y ≡ false → marked_rows_of ms w (y + 1) ≡ marked_rows_of ms w y
  rows_passed y e = rows_turn y ∙ pick_false (row_marked ms w y) _ _ e

  -- marks that agree in all h rows
  pub rows_agree_lem : (ns : List ℕ) (h : ℕ) → ((i : ℕ) → i < h * w → on ms i ≡ on ns i) → marked_rows_of ms w h ≡ marked_rows_of ns w h
  unfolding marked_rows_of row_marked
  rows_agree_lem ns zero same = refl
  rows_agree_lem ns (suc y) same =
      let row : row_marked ms w y ≡ row_marked ns w y =
      ap (ltb 0) (over_agree (λ x. on ms (y * w + x)) (λ x. on ns (y * w + x)) (λ k i. k + 1) (λ k i. k + 1) 0 w (λ x l. same (y * w + x) (omega arith)) (λ t i l m. refl)) in
      let rest = rows_agree_lem ns y (λ i l. same i (omega arith)) in
      ap₂ (λ (b : Bool) (q : Option Rows). pick b (with_row q y) q) row rest

  -- ---- the least and the greatest
  told_marked : (y : ℕ) (q : Option Rows) → Told ms w y q → row_marked ms w y ≡ true → Told ms w (y + 1) (with_row q y)
  unfolding Told with_row
  told_marked y None t e = subst (Told ms w (y + 1)) (sym (row_alone y)) (e, e, omega arith, omega arith, t, λ z h l. absurd (omega arith))
  told_marked y (Some r) t e = (t.0, e, omega (arith, t.2, t.3), omega arith, t.4, λ z h l. absurd (omega arith))

  -- no row before h, nor the row h
  up_to : (y : ℕ) (P : ℕ → Type 0) → ((z : ℕ) → P z → z < y → row_marked ms w z ≡ false) → row_marked ms w y ≡ false → (z : ℕ) → P z → z < y + 1 → row_marked ms w z ≡ false
  up_to y P t e z p l = by (eq-or-lt_of_le (le_of_suc-le-suc (rw (add-one y) at l)))
    where
      by : (z ≡ y) ⊎ (z < y) → row_marked ms w z ≡ false
      by (inl q) = ap (row_marked ms w) q ∙ e
      by (inr q) = t z p q

  told_passed : (y : ℕ) (q : Option Rows) → Told ms w y q → row_marked ms w y ≡ false → Told ms w (y + 1) q
  unfolding Told
  told_passed y None t e = λ z l. up_to y (λ _. Unit {0}) (λ z _ l. t z l) e z tt l
  told_passed y (Some r) t e = (t.0, t.1, t.2, omega (arith, t.3), t.4, up_to y (λ z. r.last < z) t.5 e)

  told_none : Told ms w 0 None
  unfolding Told
  told_none = λ y l. absurd (omega arith)

  told : (h : ℕ) → Told ms w h (marked_rows_of ms w h)
  told zero = subst (Told ms w 0) (sym rows_start) told_none
  told (suc y) = subst (λ (h : ℕ). Told ms w h (marked_rows_of ms w h)) (add-one y) (choose (row_marked ms w y)
      (λ e. subst (Told ms w (y + 1)) (sym (rows_marked y e)) (told_marked y _ (told y) e))
      (λ e. subst (Told ms w (y + 1)) (sym (rows_passed y e)) (told_passed y _ (told y) e)))

  -- ---- rows behind the first marked one: the span opens there
  abbrev Opens : ℕ → Option Rows → Type 0
  Opens a None = ⊥
  Opens a (Some r) = r.first ≡ a

  opens_with : (a y : ℕ) (q : Option Rows) → Opens a q → with_row q y ≡ Some (record { first = a; last = y })
  unfolding with_row
  opens_with a y None o = absurd o
  opens_with a y (Some r) o = ap (λ (k : ℕ). Some (record { first = k; last = y })) o

  module _ (a : ℕ) (bare : marked_rows_of ms w a ≡ None) (marked : row_marked ms w a ≡ true) where
    pub rows_first : marked_rows_of ms w (a + 1) ≡ Some (record { first = a; last = a })
    rows_first = rows_marked a marked ∙ ap (λ (q : Option Rows). with_row q a) bare ∙ row_alone a

    opens : (k : ℕ) → Opens a (marked_rows_of ms w (a + 1 + k))
    opens zero =
        let q : a + 1 ≡ a + 1 + 0 = omega arith in
        subst (Opens a) (sym rows_first ∙ ap (marked_rows_of ms w) q) refl
    opens (suc k) =
        let q : a + 1 + k + 1 ≡ a + 1 + suc k = omega arith in
        let y = a + 1 + k in
        subst (λ (j : ℕ). Opens a (marked_rows_of ms w j)) q (choose (row_marked ms w y)
        (λ e. subst (Opens a) (sym (rows_marked y e ∙ opens_with a y _ (opens k))) refl)
        (λ e. subst (Opens a) (sym (rows_passed y e)) (opens k)))

    pub rows_last : (y : ℕ) → a < y → row_marked ms w y ≡ true → marked_rows_of ms w (y + 1) ≡ Some (record { first = a; last = y })
    rows_last y l e =
        let q : a + 1 + (y - (a + 1)) ≡ y = omega arith in
        rows_marked y e ∙ opens_with a y _ (subst (λ (j : ℕ). Opens a (marked_rows_of ms w j)) q (opens (y - (a + 1))))

pub least_and_greatest : LeastAndGreatest
unfolding LeastAndGreatest
least_and_greatest ms w h = told ms w h
