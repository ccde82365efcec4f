-- A stretch of pixels, filled one after the other in three images; and read by their places. Assumes nothing.
use mathlib.Core.Path.{◌≡◌, refl, sym, ap, ap₂, ◌∙◌}
use mathlib.Core.List.{List}
use Prim.Native.Nat.{ℕ, ◌+◌, ◌-◌, ◌*◌, ◌≤◌, ◌<◌}
use native.Mathlib.Nat.{sub_self}
use native.Mathlib.Omega.{arith}
use lib.ListN.{length, get_or, set, length-set}
use lib.Ieee.{Float, nan}
use Rattle.lists.specs.Lists.{image}
use Rattle.blends.specs.Reads.{four_at, ThreeOf, three_rows, placed_of}
use Rattle.blends.specs.declared.Three.{Three}
use Rattle.blends.proofs.Beside.{three_none, three_more, three_join, three_length, three_sources}

-- ---- a stretch, filled by any rule: f k x for the pixel `from` + x in image 3 + k, where the first of them stands at `start`
module _ (n start from to : ℕ) (f : ℕ → ℕ → Float) (xs : List Float) where
  -- what holds at the pixel x
  pub record StretchHeld (part : List Float) (x : ℕ) : Type 0 where
    pub low : from ≤ x
    pub bound : x ≤ to
    pub part_length : length part ≡ length xs
    pub images : part ≡ three_rows n start (x - from) f xs

  module _ (fits : (from ≤ to) × (start + (to - from) ≤ n) × (6 * n ≤ length xs)) where
    pub stretch_start : StretchHeld xs from
    stretch_start = record { low = omega arith; bound = omega arith; part_length = refl; images = three_none n start f xs ∙ ap (λ (m : ℕ). three_rows n start m f xs) (sym (sub_self from)) }

    -- three numbers of the rule are stored, at p, q and r
    pub stretch_more : (part : List Float) (x p q r : ℕ) (a b c : Float) → x < to → StretchHeld part x → p ≡ 3 * n + start + (x - from) → q ≡ 4 * n + start + (x - from) → r ≡ 5 * n + start + (x - from)
        → a ≡ f 0 (x - from) → b ≡ f 1 (x - from) → c ≡ f 2 (x - from) → StretchHeld (set (set (set part p a) q b) r c) (x + 1)
    stretch_more part x p q r a b c X held ep eq er ea eb ec =
        let l = held.low in
        let next : x + 1 - from ≡ x - from + 1 = omega arith in
        record {
          low = omega arith;
          bound = omega arith;
          part_length = simp length-set held.part_length;
          images = rw (ea, eb, ec, held.images, ep, eq, er, next) (three_more n start f xs (x - from) (omega arith) (omega arith));
        }

    pub stretch_end : (part : List Float) (x : ℕ) → x ≡ to → StretchHeld part x → part ≡ three_rows n start (to - from) f xs
    stretch_end part x e held = rw e at held.images

-- the same is read where the sources are the same
pub placed_same : (n w : ℕ) (spots : List ℕ) (across down xs ys : List Float) (k i : ℕ) → image n k xs ≡ image n k ys → placed_of n w spots across down xs k i ≡ placed_of n w spots across down ys k i
unfolding placed_of
placed_same n w spots across down xs ys k i e = ap (λ (l : List Float). four_at l w (get_or spots i 0) (get_or across i nan) (get_or down i nan)) e

-- ---- the reads of a stretch
module _ (n w at from to : ℕ) (spots : List ℕ) (across down xs : List Float) where
  -- what is read of image k for the pixel `from` + x
  abbrev pub taken : ℕ → ℕ → Float
  taken k x = placed_of n w spots across down xs k (from + x)

  pub taken_turn : (from ≤ to) × (at + from + (to - from) ≤ n) × (6 * n ≤ length xs) → (part : List Float) (x i : ℕ) (p : Three) → x < to → StretchHeld n (at + from) from to taken xs part x → i ≡ get_or spots x 0
      → ThreeOf n w i (get_or across x nan) (get_or down x nan) part p
      → StretchHeld n (at + from) from to taken xs (set (set (set part (3 * n + at + x) p.0) (4 * n + at + x) p.1) (5 * n + at + x) p.2) (x + 1)
  unfolding placed_of
  taken_turn fits part x i p X held e o =
      let l = held.low in
      let here : from + (x - from) ≡ x = omega arith in
      let kept : (k : ℕ) → k < 3 → image n k part ≡ image n k xs =
      λ k K. ap (image n k) held.images ∙ three_sources n (at + from) taken xs (x - from) (omega arith) (omega arith) k K in
      let value : (k : ℕ) → k < 3 → (v : Float) → v ≡ four_at (image n k part) w i (get_or across x nan) (get_or down x nan) → v ≡ taken k (x - from) =
      λ k K v g. rw here (rw (kept k K, e) at g) in
      stretch_more n (at + from) from to taken xs fits part x _ _ _ p.0 p.1 p.2 X held (omega arith) (omega arith) (omega arith)
      (value 0 (omega arith) p.0 o.first) (value 1 (omega arith) p.1 o.second) (value 2 (omega arith) p.2 o.third)

  -- some more of its pixels at once, read from what stands by then
  pub taken_block : (from ≤ to) × (at + from + (to - from) ≤ n) × (6 * n ≤ length xs) → (part part' : List Float) (x e : ℕ) → x ≤ e → e ≤ to → StretchHeld n (at + from) from to taken xs part x
      → part' ≡ three_rows n (at + x) (e - x) (λ k i. placed_of n w spots across down part k (x + i)) part → StretchHeld n (at + from) from to taken xs part' e
  taken_block fits part part' x e X E held is =
      let l = held.low in
      let start : at + from + (x - from) ≡ at + x = omega arith in
      let done : x - from + (e - x) ≡ e - from = omega arith in
      let kept : (k : ℕ) → k < 3 → image n k part ≡ image n k xs =
      λ k K. ap (image n k) held.images ∙ three_sources n (at + from) taken xs (x - from) (omega arith) (omega arith) k K in
      let same : (k i : ℕ) → k < 3 → i < e - x → placed_of n w spots across down part k (x + i) ≡ taken k (x - from + i) =
      λ k i K h.
      let here : x + i ≡ from + (x - from + i) = omega arith in
      placed_same n w spots across down part xs k (x + i) (kept k K) ∙ ap (placed_of n w spots across down xs k) here in
      let joined : part' ≡ three_rows n (at + from) (e - from) taken xs =
      is ∙ ap₂ (λ (z : List Float) (j : ℕ). three_rows n j (e - x) (λ k i. placed_of n w spots across down part k (x + i)) z) held.images (sym start)
      ∙ three_join n (at + from) taken xs (x - from) (e - x) _ (omega arith) (omega arith) same ∙ ap (λ (m : ℕ). three_rows n (at + from) m taken xs) done in
      record {
        low = omega arith;
        bound = E;
        part_length = ap length joined ∙ three_length n (at + from) taken xs (e - from) (omega arith) (omega arith);
        images = joined;
      }
