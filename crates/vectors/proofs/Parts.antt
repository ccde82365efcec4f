-- The parts of a pass: what the code compares is what the definitions give. Assumes nothing.
use Rattle.std.specs.Prelude.{Option}
use Prim.Native.Nat.{ℕ, ◌+◌, ◌*◌, ◌≤◌, ◌<◌}
use mathlib.Core.Bool.{Bool, not, ◌&&◌}
use mathlib.Core.Path.{◌≡◌, sym, ap, ap₂, ◌∙◌}
use mathlib.Core.List.{List, ◌++◌}
use native.Mathlib.Nat.{mul_comm}
use native.Mathlib.Omega.{arith}
use lib.Dec.{leb, eqb}
use lib.ListN.{length, take, drop, get_or, length-take, length-drop}
use lib.Ieee.{Float, nan}
use Rattle.lists.specs.Lists.{put, image, set_image}
use Rattle.lists.specs.Marked.{words_for}
use Rattle.lists.proofs.Grow.{get_d_tab}
use Rattle.lists.proofs.Put.{length_put, take_put_front}
use Rattle.lists.proofs.Images.{image_zero, image_set, image_set_other, length_set_image}
use Rattle.marks.specs.Marks.{on, count_on}
use Rattle.bits.specs.Words.{words_of, unpacked_of, ones_of}
use Rattle.bits.specs.Equal.{BitIsMark, OnesAreCount, BytesBack}
use Rattle.bits.proofs.Equal.{bit_is_mark, ones_are_count, bytes_back}
use Rattle.inverse.specs.Inverse.{inverse_of}
use Rattle.inverse.specs.declared.Matrix3.{Matrix3}
use Rattle.rows.specs.Rows.{marked_rows_of}
use Rattle.rows.proofs.Turns.{rows_agree_lem}
use Rattle.pose.specs.declared.Map.{Map}
use Rattle.places.specs.Point.{marks_of}
use Rattle.warp.specs.Warp.{warp_of, Warped}
use Rattle.warp.specs.declared.Found.{Found}
use Rattle.stats.specs.Stats.{centred_of, stats_of, AgreeAt, Centred}
use Rattle.stats.specs.declared.Stats.{Stats}
use Rattle.words.specs.Words.{stored_at, bytes_at, floats_at, floats_agree, bytes_agree}
use Rattle.vectors.specs.Shapes.{Fitting}
use Rattle.places.proofs.Sizes.{length_marks, mark_few}
use Rattle.warp.proofs.Sizes.{length_warp}
use Rattle.stats.proofs.Sizes.{length_centred}
use Rattle.vectors.specs.Passes.{map_at, warp_agrees, image_at, template_at, norms_of, marked_agree, stats_agree, rows_told, rows_agree, matrix_at, inverse_told, inverse_agrees}
use Rattle.vectors.specs.declared.shapes.Shape.{Shape}
use Rattle.vectors.proofs.Tests.{and_passed}
use Rattle.vectors.proofs.Runs.{length_floats, image_floats, three_images}
use Rattle.vectors.proofs.Stages.{pixels_are}
use Rattle.vectors.proofs.Marked.{count_same, centred_same, stats_same, marked_same}
use Rattle.rows.specs.declared.Rows.{Rows}

-- ---- three images after three others, each with the length of an image
module _ (n : ℕ) (ys a b c : List Float) (room : 6 * n ≤ length ys) (a_long : length a ≡ n) (b_long : length b ≡ n) (c_long : length c ≡ n) where
  abbrev one : List Float
  one = set_image n 3 a ys

  abbrev two : List Float
  two = set_image n 4 b one

  length_one : length one ≡ length ys
  length_one = length_set_image n 3 ys a a_long (omega arith)

  length_two : length two ≡ length ys
  length_two = length_set_image n 4 one b b_long (omega (arith, length_one)) ∙ length_one

  pub three_are : take (3 * n) (drop (3 * n) (set_image n 5 c (set_image n 4 b (set_image n 3 a ys)))) ≡ a ++ (b ++ c)
  three_are =
      three_images n _
      ∙ ap₂ ◌++◌
      (image_set_other n 3 5 two c c_long (omega (arith, length_two)) (λ e. omega arith) ∙ image_set_other n 3 4 one b b_long (omega (arith, length_one)) (λ e. omega arith) ∙ image_set n 3 ys a a_long (omega arith))
      (ap₂ ◌++◌
      (image_set_other n 4 5 two c c_long (omega (arith, length_two)) (λ e. omega arith) ∙ image_set n 4 one b b_long (omega (arith, length_one)))
      (image_set n 5 two c c_long (omega (arith, length_two))))

-- w, h, the map, three images: the warped ones follow, then marks, which come back from their words as bytes, then their count
pub warp_told : (words : List ℕ) {s : Shape} (f : Fitting (stored_at words 1) (stored_at words 2) s) →
    (map : Map) (xs ys zs : List Float) (ws vs ms ns : List ℕ) (found : Found) → 6 * s.n ≤ length xs → words_for s.n ≤ length ws → ys ≡ put xs 0 (floats_at words 9 (3 * s.n)) → map ≡ map_at words 3 →
    Warped map s.w s.h ys ws zs vs found → ns ≡ put ms 0 (unpacked_of vs s.n) →
    (floats_agree words (9 + 3 * s.n) (take (3 * s.n) (drop (3 * s.n) zs)) && bytes_agree words (9 + 6 * s.n) (take s.n ns) && eqb found.count (stored_at words (9 + 7 * s.n))) ≡ warp_agrees words
unfolding warp_agrees BytesBack
warp_told words {s} f map xs ys zs ws vs ms ns found room held e m warped told =
    let n = s.n in
    let p : s.w * s.h ≡ n = sym f.pixels in
    let fits : 0 + length (floats_at words 9 (3 * n)) ≤ length xs = omega (arith, length_floats words 9 (3 * n)) in
    let long : length ys ≡ length xs = ap length e ∙ length_put xs 0 _ fits in
    let source : (k : ℕ) → k * n + n ≤ 3 * n → image n k ys ≡ floats_at words (9 + k * n) n = λ k h. ap (image n k) e ∙ image_floats words 9 n (3 * n) k xs h (omega arith) in
    let size : (l : List Float) → length (warp_of l map s.w s.h) ≡ n = λ l. length_warp l map s.w s.h ∙ p in
    let images = (rw p at (ap (λ (l : List Float). take (3 * n) (drop (3 * n) l)) warped.images)) ∙ three_are n ys _ _ _ (omega arith) (size _) (size _) (size _) in
    let first = source 0 (omega arith) in
    let second = source 1 (omega arith) in
    let third = source 2 (omega arith) in
    let k = length_marks map s.w s.h ∙ p in
    let back : unpacked_of vs n ≡ marks_of map s.w s.h = ap (λ (z : List ℕ). unpacked_of z n) (rw p at warped.marked) ∙ bytes_back (marks_of map s.w s.h) ws n held k (rw p at (mark_few map s.w s.h)) in
    let marks : take n ns ≡ marks_of map s.w s.h = ap (take n) (told ∙ ap (put ms 0) back) ∙ take_put_front ms _ n k in
    let count = rw p at warped.counted in
    let wide = f.w_is in
    let high = f.h_is in
    let all = pixels_are f in
    and_passed f.is cc

-- ---- pixels, marks, image, template: the centred images follow, then the norms
abbrev agreed_at : List ℕ → ℕ → Bool
agreed_at words n =
    let ms = bytes_at words 2 n in
    marked_agree ms words (2 + 3 * n) (template_at words n)
    && marked_agree ms words (2 + 4 * n) (image_at words n)
    && floats_agree words (2 + 5 * n) (norms_of (stats_of ms n (template_at words n) (image_at words n)))

-- the marks stored from the word `at` on, and the words that they were packed into
module _ (words : List ℕ) (at n : ℕ) (few : n ≤ 1024) (ms os ws : List ℕ) (m : ms ≡ bytes_at words at 1024) (held : words_for n ≤ length os) (w : ws ≡ put os 0 (words_of ms n)) where
  stored_same : (i : ℕ) → i < n → on ms i ≡ on (bytes_at words at n) i
  unfolding bytes_at
  stored_same i h = ap (λ (l : List ℕ). on l i) m ∙ ap (λ (b : ℕ). not (eqb b 0)) (get_d_tab 1024 i _ 0 (omega arith) ∙ sym (get_d_tab n i _ 0 h))

  packed_same : (i : ℕ) → i < n → on (unpacked_of ws n) i ≡ on ms i
  unfolding BitIsMark
  packed_same i h = ap (λ (l : List ℕ). on (unpacked_of l n) i) w ∙ bit_is_mark ms os n held i h

  both_same : (i : ℕ) → i < n → on (unpacked_of ws n) i ≡ on (bytes_at words at n) i
  both_same i h = packed_same i h ∙ stored_same i h

-- ---- w, h, marks: the rows that hold one follow
pub rows_told_lem : (words : List ℕ) {s : Shape} (f : Fitting (stored_at words 1) (stored_at words 2) s) → (ms os ws : List ℕ) → ms ≡ bytes_at words 3 1024 → words_for s.n ≤ length os →
    ws ≡ put os 0 (words_of ms s.n) → (q : Option Rows) → q ≡ marked_rows_of (unpacked_of ws (s.w * s.h)) s.w s.h → rows_told words (3 + s.n) q ≡ rows_agree words
unfolding rows_agree
rows_told_lem words {s} f ms os ws m held w q e =
    let p = f.pixels in
    let same = both_same words 3 s.n f.few ms os ws m held w in
    let rows : q ≡ marked_rows_of (bytes_at words 3 s.n) s.w s.h =
    e ∙ ap (λ (n : ℕ). marked_rows_of (unpacked_of ws n) s.w s.h) (sym p) ∙ rows_agree_lem (unpacked_of ws s.n) s.w (bytes_at words 3 s.n) s.h (λ i l. same i (omega (arith, p, mul_comm s.h s.w))) in
    let wide = f.w_is in
    let high = f.h_is in
    let all = pixels_are f in
    and_passed f.is cc

module _ (words : List ℕ) (n : ℕ) (few : n ≤ 1024) (ms os ws : List ℕ) (m : ms ≡ bytes_at words 2 1024) (held : words_for n ≤ length os) (w : ws ≡ put os 0 (words_of ms n)) where
  abbrev packed_as : (i : ℕ) → i < n → on (unpacked_of ws n) i ≡ on ms i
  packed_as = packed_same words 2 n few ms os ws m held w

  abbrev stored_as : (i : ℕ) → i < n → on ms i ≡ on (bytes_at words 2 n) i
  stored_as = stored_same words 2 n few ms os ws m held w

  abbrev both_as : (i : ℕ) → i < n → on (unpacked_of ws n) i ≡ on (bytes_at words 2 n) i
  both_as = both_same words 2 n few ms os ws m held w

  pub found_told : (found : ℕ) → found ≡ ones_of ws (words_for n) → found ≡ count_on (unpacked_of ws n) n
  unfolding OnesAreCount
  found_told found e = e ∙ ap (λ (l : List ℕ). ones_of l (words_for n)) w ∙ ones_are_count ms os n held ∙ sym (count_same (unpacked_of ws n) ms n packed_as)

  module _ (xs ys zs us : List Float) (r : Stats) (room : 6 * n ≤ length xs) (e : ys ≡ put xs 0 (floats_at words (2 + n) n)) (g : zs ≡ put ys (3 * n) (floats_at words (2 + 2 * n) n))
      (told : Centred (unpacked_of ws n) n zs us r) (long : 6 * n ≤ length us) where
    length_ys : length ys ≡ length xs
    length_ys = ap length e ∙ length_put xs 0 _ (omega (arith, length_floats words (2 + n) n))

    zs_is : zs ≡ set_image n 3 (floats_at words (2 + 2 * n) n) ys
    unfolding set_image
    zs_is = g

    template_is : image n 3 zs ≡ floats_at words (2 + 2 * n) n
    template_is = ap (image n 3) zs_is ∙ image_set n 3 ys _ (length_floats words (2 + 2 * n) n) (omega (arith, length_ys))

    source_is : image n 0 zs ≡ floats_at words (2 + n) n
    source_is =
        ap (image n 0) zs_is
        ∙ image_set_other n 0 3 ys _ (length_floats words (2 + 2 * n) n) (omega (arith, length_ys)) (λ z. omega arith)
        ∙ ap (image n 0) e ∙ image_zero n _ ∙ take_put_front xs _ n (length_floats words (2 + n) n)

    -- what is centred by the words' marks is centred by the stored ones
    centred_is : {l k : List Float} → l ≡ k → centred_of (unpacked_of ws n) n l ≡ centred_of (bytes_at words 2 n) n k
    centred_is {l} {k} q = centred_same _ _ n both_as l ∙ ap (centred_of (bytes_at words 2 n) n) q

    image_told : (from k : ℕ) → k * n + n ≤ length us → (l t : List Float) → l ≡ t → AgreeAt (unpacked_of ws n) n (image n k us) (centred_of (unpacked_of ws n) n l) →
        marked_agree ms words from (image n k us) ≡ marked_agree (bytes_at words 2 n) words from (centred_of (bytes_at words 2 n) n t)
    unfolding image
    image_told from k fit l t q agree =
        marked_same ms _ n stored_as words from _ _ (simp (length-take, length-drop) (omega arith)) (length_centred _ n t)
        (λ i h o. agree i h (packed_as i h ∙ o) ∙ ap (λ (z : List Float). get_or z i nan) (centred_is q))

    pub stats_told : (marked_agree ms words (2 + 3 * n) (image n 4 us) && marked_agree ms words (2 + 4 * n) (image n 5 us) && floats_agree words (2 + 5 * n) (norms_of r)) ≡ agreed_at words n
    stats_told =
        let a = image_told (2 + 3 * n) 4 (omega arith) _ _ template_is told.template in
        let b = image_told (2 + 4 * n) 5 (omega arith) _ _ source_is told.warped in
        let t = centred_is template_is in
        let i = centred_is source_is in
        let got : r ≡ stats_of (bytes_at words 2 n) n (template_at words n) (image_at words n) =
        told.answer ∙ stats_same (unpacked_of ws n) (bytes_at words 2 n) n both_as _ _ ∙ ap₂ (stats_of (bytes_at words 2 n) n) t i in
        cc

pub stats_agree_lem : (words : List ℕ) (n : ℕ) → n ≡ stored_at words 1 → (leb n 1024 && agreed_at words n) ≡ stats_agree words
unfolding stats_agree
stats_agree_lem words n e = ap (λ (n : ℕ). leb n 1024 && agreed_at words n) e

-- ---- nine entries: the inverse's own, or none
pub inverse_told_lem : (words : List ℕ) {m : Matrix3} {v : Option Matrix3} → m ≡ matrix_at words 1 → v ≡ inverse_of m → inverse_told words v ≡ inverse_agrees words
unfolding inverse_agrees
inverse_told_lem words {m} {v} e f = ap (inverse_told words) (f ∙ ap inverse_of e)
