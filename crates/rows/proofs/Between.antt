-- A sum over all pixels is one over the marked rows. Assumes nothing.
use Rattle.std.specs.Prelude.{None, Some}
use Prim.Native.Nat.{ℕ, zero, suc, ◌+◌, ◌-◌, ◌*◌, ◌/◌, ◌%◌, ◌≤◌, ◌<◌}
use mathlib.Core.Path.{◌≡◌, sym, ap, ◌∙◌, subst}
use mathlib.Core.Bool.{false}
use mathlib.Core.List.{List}
use native.Mathlib.Nat.{mod-lt, div-add-mod', div-lt_iff_lt-mul, le-div_iff_mul-le, mul_comm, mul-le-mul_right}
use native.Mathlib.Omega.{arith}
use Rattle.lists.specs.Marked.{over_marked, count_marked}
use Rattle.lists.proofs.Fold.{over_none, over_bare}
use Rattle.marks.specs.Marks.{on, count_on}
use Rattle.bits.specs.declared.Stretch.{Stretch}
use Rattle.rows.specs.Rows.{row_marked, marked_rows_of, Told, LeastAndGreatest}
use Rattle.rows.specs.Between.{pixels_of, Between, MarksBetween, FoldBetween}
use Rattle.rows.specs.declared.Rows.{Rows}
use Rattle.rows.proofs.Turns.{row_bare, least_and_greatest}

some_wide : (w k i : ℕ) → i < k * w → 0 < w
some_wide zero k i l = absurd (omega arith)
some_wide (suc w) k i l = omega arith

-- a pixel of a row that holds no mark
pixel_bare : (ms : List ℕ) (w i : ℕ) → 0 < w → row_marked ms w (i / w) ≡ false → on ms i ≡ false
pixel_bare ms w i some e = subst (λ (k : ℕ). on ms k ≡ false) (div-add-mod' i w) (row_bare ms w (i / w) e (i % w) (mod-lt i some))

pub marks_between : MarksBetween
unfolding MarksBetween LeastAndGreatest Told pixels_of
marks_between ms w h rows e =
    let t = subst (Told ms w h) e (least_and_greatest ms w h) in
    record {
      order = mul-le-mul_right w (omega (arith, t.2));
      inside = rw (mul_comm w h) (mul-le-mul_right {m = rows.last + 1} {n = h} w (omega (arith, t.3)));
      before = λ i l. let some = some_wide w rows.first i l in pixel_bare ms w i some (t.4 (i / w) ((div-lt_iff_lt-mul some).1 l));
      behind = λ i l m.
          let few : i < h * w = rw (mul_comm h w) m in
          let some = some_wide w h i few in
          let after : rows.last + 1 ≤ i / w = (le-div_iff_mul-le some).1 l in
          pixel_bare ms w i some (t.5 (i / w) (omega arith) ((div-lt_iff_lt-mul some).1 few));
    }

-- what the functions above ask of the rows that were found: that they lie within the image, and their pixels as they are worked out
module _ (ms : List ℕ) (w h : ℕ) (rows : Rows) (e : marked_rows_of ms w h ≡ Some rows) where
  pub rows_order : (rows.first ≤ rows.last) × (rows.last < h)
  unfolding LeastAndGreatest Told
  rows_order = let t = subst (Told ms w h) e (least_and_greatest ms w h) in (t.2, t.3)

  pub span_between : (r : Stretch) → r ≡ pixels_of rows w → Between ms (w * h) r.from r.to
  unfolding MarksBetween
  span_between r q = subst (λ (r : Stretch). Between ms (w * h) r.from r.to) (sym q) (marks_between ms w h rows e)

-- where no row holds a mark none is counted
pub bare_count : (ms : List ℕ) (w h : ℕ) → marked_rows_of ms w h ≡ None → count_on ms (w * h) ≡ 0
unfolding LeastAndGreatest Told count_on
bare_count ms w h e =
    let t = subst (Told ms w h) e (least_and_greatest ms w h) in
    let n : ℕ = 0 + w * h in
    let q : n ≡ w * h = omega arith in
    sym (ap (count_marked (on ms)) q)
    ∙ over_bare (on ms) (λ k i. k + 1) 0 0 (w * h) (λ i h' l.
    let few : i < h * w = rw (mul_comm h w) (omega arith) in
    let some = some_wide w h i few in
    pixel_bare ms w i some (t (i / w) ((div-lt_iff_lt-mul some).1 few)))
    ∙ over_none (on ms) (λ k i. k + 1) 0

pub fold_between : FoldBetween
unfolding FoldBetween
fold_between S ms n from to o step s =
    let m = on ms in
    let p : 0 + from ≡ from = omega arith in
    let q : to + (n - to) ≡ n = omega (arith, o.inside) in (
      sym (sym (ap (over_marked m step s) p) ∙ over_bare m step s 0 from (λ i h l. o.before i (omega arith)) ∙ over_none m step s),
      sym (sym (ap (over_marked m step s) q) ∙ over_bare m step s to (n - to) (λ i h l. o.behind i h (omega arith))),
    )
