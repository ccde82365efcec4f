-- `warp::warp_three_inverse_map` meets its contract: a row at a turn. Assumes nothing.
use Prim.Native.Nat.{ℕ, ◌*◌, ◌+◌, ◌<◌}
use mathlib.Core.Path.{◌≡◌, refl, sym, ap, ◌∙◌}
use native.Mathlib.Nat.{mul-le-mul, mul_comm, zero-mul, zero-add}
use native.Mathlib.Omega.{arith}
use Rattle.lists.specs.Lists.{tab, put}
use Rattle.lists.proofs.Fill.{row_in}
use Rattle.bits.specs.Words.{ones_of}
use Rattle.bits.specs.Packing.{words_to}
use Rattle.bits.proofs.Equal.{words_none}
use Rattle.places.specs.Point.{marks_of}
use Rattle.warp.proofs.Frame.{holding, onward_none, onward_more, onward_holding, onward_all}
use Rattle.warp.proofs.warp_three_inverse_map.Goals as goal

pub loop-y-init : goal.loop-y-init
loop-y-init c =
    let cleared : let a = c.args in c.fill_words.new.words ≡ put a.marks.now 0 (words_to (marks_of a.map a.w a.h) (a.w * a.h) 0) =
    let a = c.args in
    c.fill_words.ensures ∙ ap (λ (k : ℕ). put a.marks.now 0 (tab k (λ _. 0))) (omega arith) ∙ ap (put a.marks.now 0) (words_none (marks_of a.map a.w a.h) (a.w * a.h)) in
    let a = c.args in
    let h = holding a.map a.w a.h a.marks.now c.requires.2 0 _ cleared in
    (rw (zero-mul a.w) (onward_none a.map a.w a.h 0 a.part.now _ h), refl, refl)

pub warp_row-requires : goal.warp_row-requires
warp_row-requires c =
    let l = c.loop-y in
    let a = c.args in
    let i = l.invariant in
    let size = c.fill_words.auto.words in
    let taken : l.y < a.h = omega arith in (
      c.requires.0,
      taken,
      omega (arith, i.1, c.requires.1),
      omega (arith, i.2, size, c.requires.2),
      rw (zero-add (l.y * a.w)) at (onward_holding a.map a.w a.h 0 (l.y * a.w) 0 (omega (arith, row_in a.w l.y a.h taken)) a.part.now _ (c.requires.1, omega (arith, size, c.requires.2)) l.part l.marks i.0),
    )

pub loop-y-preserved : goal.loop-y-preserved
loop-y-preserved c =
    let l = c.loop-y in
    let a = c.args in
    let i = l.invariant in
    let k = c.warp_row.auto in
    let size = c.fill_words.auto.words in
    let taken = c.loop-y-test.true in
    let next : l.y * a.w + a.w ≡ (l.y + 1) * a.w = omega arith in (
      rw (sym next) (onward_more a.map a.w a.h 0 (l.y * a.w) a.w (omega (arith, row_in a.w l.y a.h taken)) a.part.now _ (c.requires.1, omega (arith, size, c.requires.2)) l.part l.marks i.0 _ _ (rw (zero-add (l.y * a.w)) c.warp_row.ensures)),
      k.part ∙ i.1,
      k.marks ∙ i.2,
    )

pub count-count-requires : goal.count-count-requires
count-count-requires c =
    let l = c.loop-y in
    (omega (arith, l.invariant.2, c.fill_words.auto.words, c.requires.2), omega (arith, mul-le-mul c.requires.0.w_most c.requires.0.h_most))

pub returns : goal.returns
returns c =
    let cleared : let a = c.args in c.fill_words.new.words ≡ put a.marks.now 0 (words_to (marks_of a.map a.w a.h) (a.w * a.h) 0) =
    let a = c.args in
    c.fill_words.ensures ∙ ap (λ (k : ℕ). put a.marks.now 0 (tab k (λ _. 0))) (omega arith) ∙ ap (put a.marks.now 0) (words_none (marks_of a.map a.w a.h) (a.w * a.h)) in
    let l = c.loop-y in
    let a = c.args in
    let e : l.y ≡ a.h = omega arith in
    onward_all a.map a.w a.h a.part.now l.part a.marks.now _ l.marks _ c.requires.2 cleared (rw (mul_comm a.w a.h) (rw e at l.invariant.0)) (c.count-count.ensures ∙ ap (ones_of l.marks) (omega arith)) c.marked_rows-rows.ensures
