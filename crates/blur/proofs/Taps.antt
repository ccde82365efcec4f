-- A tap added to a row, by a pixel or by a run of pixels at a turn, and the row that all taps leave. Assumes nothing.
use mathlib.Core.Path.{◌≡◌, sym, ap, ◌∙◌}
use mathlib.Core.List.{List}
use Prim.Native.Nat.{ℕ, ◌+◌, ◌-◌, ◌*◌, ◌≤◌, ◌<◌, min}
use native.Mathlib.Omega.{arith}
use lib.ListN.{length, take, get_or, set}
use lib.Seq.{get_or-take}
use lib.Ieee.{Float, nan}
use Rattle.lists.specs.Lists.{tab, put}
use Rattle.lists.proofs.Grow.{tab_ext}
use Rattle.lists.proofs.Fill.{fill_none, fill_more, take_fill, fill_before, fill_after, fill_join, row_in, fill_again, get_d_fill}
use Rattle.floats.specs.F32.{◌⊕◌, ◌⊗◌, 0f}
use Rattle.floats.specs.Sums.{sum_to}
use Rattle.floats.proofs.Sums.{to_none, to_more}
use Rattle.blur.specs.Blur.{clamped_of}
use Rattle.blur.specs.declared.Along.{Along}
use Rattle.blur.specs.declared.Along.TheVariants.{Rows, Columns}
use Rattle.blur.specs.Pass.{added_of, spot_of, taps_of}

-- ---- a pixel at a turn
module _ (xs : List Float) (dst : ℕ) (spot : ℕ → ℕ) (weight : Float) where
  -- the number i, added to
  abbrev sum : ℕ → Float
  sum i = get_or xs (dst + i) nan ⊕ get_or xs (spot i) nan ⊗ weight

  pub added_none : xs ≡ added_of xs dst 0 spot weight
  unfolding added_of
  added_none = fill_none xs dst sum

  module _ (n : ℕ) (fits : dst + n ≤ length xs) where
    pub added_before : (k : ℕ) → k < dst → get_or (added_of xs dst n spot weight) k nan ≡ get_or xs k nan
    unfolding added_of
    added_before k h = fill_before xs dst sum n fits k nan h

    added_after : (k : ℕ) → dst + n ≤ k → get_or (added_of xs dst n spot weight) k nan ≡ get_or xs k nan
    unfolding added_of
    added_after k h = fill_after xs dst sum n fits k nan h

  pub added_more : (i : ℕ) (v : Float) → dst + i < length xs → v ≡ get_or xs (spot i) nan ⊗ weight →
      set (added_of xs dst i spot weight) (dst + i) (get_or (added_of xs dst i spot weight) (dst + i) nan ⊕ v) ≡ added_of xs dst (i + 1) spot weight
  unfolding added_of
  added_more i v h e =
      let same = added_after i (omega arith) (dst + i) (omega arith) in
      fill_more xs dst sum i (get_or (added_of xs dst i spot weight) (dst + i) nan ⊕ v) h (ap (λ (z : Float). z ⊕ v) same ∙ ap (λ (z : Float). get_or xs (dst + i) nan ⊕ z) e)

-- ---- a run at a turn
pub added_ext : (xs : List Float) (dst n : ℕ) (f g : ℕ → ℕ) (weight : Float) → ((i : ℕ) → i < n → f i ≡ g i) → added_of xs dst n f weight ≡ added_of xs dst n g weight
unfolding added_of
added_ext xs dst n f g weight e = ap (put xs dst) (tab_ext n (sum xs dst f weight) (sum xs dst g weight) (λ i l. ap (λ (j : ℕ). get_or xs (dst + i) nan ⊕ get_or xs j nan ⊗ weight) (e i l)))

-- two runs, one right behind the other, are one run, where what the second reads stands before both
added_join : (xs : List Float) (dst m k : ℕ) (f g spot : ℕ → ℕ) (weight : Float) → dst + m + k ≤ length xs → ((i : ℕ) → i < m → f i ≡ spot i) → ((i : ℕ) → i < k → g i ≡ spot (m + i)) →
    ((i : ℕ) → i < k → g i < dst) → added_of (added_of xs dst m f weight) (dst + m) k g weight ≡ added_of xs dst (m + k) spot weight
unfolding added_of
added_join xs dst m k f g spot weight fits first second inside =
    ap (λ (z : List Float). added_of z (dst + m) k g weight) (added_ext xs dst m f spot weight first)
    ∙ fill_join xs dst m k (sum xs dst spot weight) (sum ys (dst + m) g weight) fits agree
  where
    ys : List Float
    ys = added_of xs dst m spot weight

    to : (i : ℕ) → dst + m + i ≡ dst + (m + i)
    to i = omega arith

    own : (i : ℕ) → get_or ys (dst + m + i) nan ≡ get_or xs (dst + (m + i)) nan
    own i = added_after xs dst spot weight m (omega arith) (dst + m + i) (omega arith) ∙ ap (λ (j : ℕ). get_or xs j nan) (to i)

    read : (i : ℕ) → i < k → get_or ys (g i) nan ≡ get_or xs (spot (m + i)) nan
    read i l = added_before xs dst spot weight m (omega arith) (g i) (inside i l) ∙ ap (λ (j : ℕ). get_or xs j nan) (second i l)

    agree : (i : ℕ) → i < k → sum ys (dst + m) g weight i ≡ sum xs dst spot weight (m + i)
    agree i l = ap (λ (z : Float). z ⊕ get_or ys (g i) nan ⊗ weight) (own i) ∙ ap (λ (z : Float). get_or xs (dst + (m + i)) nan ⊕ z ⊗ weight) (read i l)

module _ (xs : List Float) (dst src w n m : ℕ) (weight : Float) (least : m ≡ min n w) (before : src + w ≤ dst) (some : 1 ≤ w) (fits : dst + w ≤ length xs) where
  -- n pixels to the left: the first pixel is repeated
  pub left_joined : added_of (added_of xs dst m (λ _. src) weight) (dst + m) (w - m) (λ i. src + i) weight ≡ added_of xs dst w (λ x. src + (x - n)) weight
  left_joined =
      let whole : m + (w - m) ≡ w = omega arith in
      added_join xs dst m (w - m) (λ _. src) (λ i. src + i) (λ x. src + (x - n)) weight (omega arith) (λ i l. omega arith) (λ i l. omega arith) (λ i l. omega arith)
      ∙ ap (λ (z : ℕ). added_of xs dst z (λ x. src + (x - n)) weight) whole

  -- n pixels to the right: the last pixel is repeated
  pub right_joined : added_of (added_of xs dst (w - m) (λ i. src + m + i) weight) (dst + (w - m)) m (λ _. src + (w - 1)) weight ≡ added_of xs dst w (λ x. src + min (x + n) (w - 1)) weight
  right_joined =
      let whole : w - m + m ≡ w = omega arith in
      added_join xs dst (w - m) m (λ i. src + m + i) (λ _. src + (w - 1)) (λ x. src + min (x + n) (w - 1)) weight (omega arith) (λ i l. omega arith) (λ i l. omega arith) (λ i l. omega arith)
      ∙ ap (λ (z : ℕ). added_of xs dst z (λ x. src + min (x + n) (w - 1)) weight) whole

-- ---- a tap at a turn
pub spot_in : (along : Along) (ksize w h x y k : ℕ) → x < w → y < h → spot_of along ksize w h x y k < w * h
spot_in Rows ksize w h x y k p q = omega (arith, row_in w y h q)
spot_in Columns ksize w h x y k p q = omega (arith, row_in w (clamped_of ksize h y k) h (omega arith))

-- zs, with the first n taps of the row y from dst on
abbrev pub row : Along → List Float → ℕ → ℕ → ℕ → ℕ → ℕ → List Float → ℕ → List Float
row along ks ksize w h y dst zs n = put zs dst (tab w (λ x. taps_of along ks ksize w h (take (w * h) zs) n x y))

module _ (along : Along) (ks : List Float) (ksize w h y : ℕ) (xs : List Float) (dst : ℕ) (behind : w * h ≤ dst) (fits : dst + w ≤ length xs) where
  pub taps_more : y < h → (k : ℕ) → added_of (row along ks ksize w h y dst xs k) dst w (λ x. spot_of along ksize w h x y k) (get_or ks k nan) ≡ row along ks ksize w h y dst xs (k + 1)
  unfolding added_of taps_of
  taps_more q k = ap (put zs dst) (tab_ext w (sum zs dst spot weight) (λ x. sum_to (f x) (k + 1)) one) ∙ fill_again xs dst w (λ x. sum_to (f x) k) fits (λ x. sum_to (f x) (k + 1))
    where
      f : ℕ → ℕ → Float
      f x j = get_or (take (w * h) xs) (spot_of along ksize w h x y j) nan ⊗ get_or ks j nan

      zs : List Float
      zs = put xs dst (tab w (λ x. sum_to (f x) k))

      spot : ℕ → ℕ
      spot x = spot_of along ksize w h x y k

      weight : Float
      weight = get_or ks k nan

      read : (x : ℕ) → spot x < w * h → get_or zs (spot x) nan ≡ get_or (take (w * h) xs) (spot x) nan
      read x p = fill_before xs dst (λ x. sum_to (f x) k) w fits (spot x) nan (omega arith) ∙ sym (get_or-take (w * h) xs (spot x) nan p)

      one : (x : ℕ) → x < w → sum zs dst spot weight x ≡ sum_to (f x) (k + 1)
      one x l =
          ap (λ (z : Float). z ⊕ get_or zs (spot x) nan ⊗ weight) (get_d_fill xs dst w (λ x. sum_to (f x) k) fits x nan l)
          ∙ ap (λ (z : Float). sum_to (f x) k ⊕ z ⊗ weight) (read x (spot_in along ksize w h x y k l q))
          ∙ sym (to_more (f x) k)

  -- the row that the taps start from, and the one that they leave
  module _ (zs : List Float) (cleared : zs ≡ put xs dst (tab w (λ _. 0f))) where
    pub taps_none : zs ≡ row along ks ksize w h y dst zs 0
    unfolding taps_of
    taps_none =
        let none : ℕ → Float = λ x. taps_of along ks ksize w h (take (w * h) zs) 0 x y in
        cleared
        ∙ sym (fill_again xs dst w (λ _. 0f) fits (λ _. 0f))
        ∙ ap (put (put xs dst (tab w (λ _. 0f))) dst) (tab_ext w (λ _. 0f) none (λ x l. sym (to_none _)))
        ∙ ap (λ (l : List Float). put l dst (tab w none)) (sym cleared)

    pub taps_end : (n : ℕ) → row along ks ksize w h y dst zs n ≡ row along ks ksize w h y dst xs n
    taps_end n =
        let same : take (w * h) zs ≡ take (w * h) xs = ap (take (w * h)) cleared ∙ take_fill xs dst (λ _. 0f) w fits (w * h) behind in
        let all : List Float → ℕ → Float = λ src x. taps_of along ks ksize w h src n x y in
        ap (λ (l : List Float). put zs dst (tab w (all l))) same
        ∙ ap (λ (l : List Float). put l dst (tab w (all (take (w * h) xs)))) cleared
        ∙ fill_again xs dst w (λ _. 0f) fits (all (take (w * h) xs))
