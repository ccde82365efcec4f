-- The sums over the marked places as folds: start, turn and end of each. A turn goes through a stretch of marked places, which are read from the part; the
-- definitions read the images. Assumes nothing.
use Prim.Native.Nat.{ℕ, ◌+◌, ◌-◌, ◌*◌, ◌≤◌, ◌<◌}
use mathlib.Core.Path.{◌≡◌, refl, sym, ap, ap₂, ◌∙◌}
use mathlib.Core.List.{List}
use native.Mathlib.Omega.{arith}
use lib.ListN.{get_or}
use lib.Ieee.{Float, nan, binary32}
use Rattle.lists.specs.Lists.{image}
use Rattle.lists.proofs.Grow.{get_d_tab}
use Rattle.lists.proofs.Images.{get_d_place}
use Rattle.floats.specs.F32.{◌⊖◌, ◌⊗◌, 0f}
use Rattle.floats.proofs.Sums.{sum_agree}
use Rattle.floats.proofs.Products.{times_comm}
use Rattle.marks.specs.Marks.{on}
use Rattle.bits.specs.Words.{unpacked_of}
use Rattle.bits.specs.Stretches.{StretchOf}
use Rattle.bits.specs.declared.Stretch.{Stretch}
use Rattle.rows.specs.Between.{Between}
use Rattle.rows.proofs.Folds.{fold_to, fold_none, fold_all, fold_stretch}
use Rattle.stats.specs.Stats.{product_of}
use Rattle.stats.proofs.Turns.{product_part}
use Rattle.inverse.specs.declared.Vector3.{Vector3}
use Rattle.inverse.specs.declared.Matrix3.{Matrix3}
use Rattle.sums.specs.Steps.{j_at, scaled_more}
use Rattle.sums.specs.Fours.{four_in, four_more, quad_at, fours_of, SumsMore}
use Rattle.sums.specs.Sums.{proj_of, hessian_of, error_of}
use Rattle.sums.specs.declared.Four.{Four}

-- a sum of products is the same either way round
pub product_comm : (ms : List ℕ) (n : ℕ) (xs ys : List Float) → product_of ms n xs ys ≡ product_of ms n ys xs
unfolding product_of
product_comm ms n xs ys = sum_agree (on ms) (on ms) _ _ n (λ i l. refl) (λ i l m. times_comm binary32 (get_or xs i nan) (get_or ys i nan))

module _ (ws : List ℕ) (n : ℕ) (part : List Float) where
  abbrev ms : List ℕ
  ms = unpacked_of ws n

  abbrev j0 : List Float
  j0 = image n 5 part

  abbrev j1 : List Float
  j1 = image n 0 part

  abbrev j2 : List Float
  j2 = image n 1 part

  abbrev tz : List Float
  tz = image n 3 part

  abbrev iz : List Float
  iz = image n 4 part

  -- j at a pixel, by the images; by places of the part it is the same
  abbrev j_here : ℕ → Vector3
  j_here i = (get_or j0 i nan, get_or j1 i nan, get_or j2 i nan)

  j_is : (i : ℕ) → i < n → j_at part n i ≡ j_here i
  j_is i h =
      let a = get_d_place n 5 i _ part nan h refl in
      let b = get_d_place n 0 i i part nan h (omega arith) in
      let c = get_d_place n 1 i (n + i) part nan h (omega arith) in
      λ k. (a k, b k, c k)

  -- ---- the sums of j with an image
  module _ (xs : List Float) where
    abbrev pub add_proj : Vector3 → ℕ → Vector3
    add_proj s k = scaled_more s (j_here k) (get_or xs k nan)

    -- over the marked places below i
    abbrev pub proj_to : ℕ → Vector3
    proj_to i = fold_to ws n add_proj (0f, 0f, 0f) i

    -- what the code adds at a pixel, with the factor v
    pub proj_same : (s : Vector3) (k : ℕ) (v : Float) → k < n → v ≡ get_or xs k nan → scaled_more s (j_at part n k) v ≡ add_proj s k
    proj_same s k v h e = ap₂ (scaled_more s) (j_is k h) e

    pub proj_end : (s : Vector3) → s ≡ proj_to n → s ≡ proj_of ms n j0 j1 j2 xs
    unfolding fold_to proj_of
    proj_end s e =
        let a = product_part ms add_proj (0f, 0f, 0f) n (λ s. s.0) refl j0 xs (λ s i l m. refl) in
        let b = product_part ms add_proj (0f, 0f, 0f) n (λ s. s.1) refl j1 xs (λ s i l m. refl) in
        let c = product_part ms add_proj (0f, 0f, 0f) n (λ s. s.2) refl j2 xs (λ s i l m. refl) in
        e ∙ λ k. (a k, b k, c k)

  -- ---- the sums that stand side by side. A pixel's four numbers, by the images; by places of the part they are the same
  abbrev quad : ℕ → Four
  quad i = (get_or j0 i nan, get_or j1 i nan, get_or j2 i nan, get_or iz i nan)

  quad_is : (i : ℕ) → i < n → quad_at part n i ≡ quad i
  quad_is i h =
      let j = j_is i h in
      let z = get_d_place n 4 i _ part nan h refl in
      λ k. ((j k).0, (j k).1, (j k).2, z k)

  -- ---- four of them, with an image
  module _ (xs : List Float) where
    abbrev add_quad : Four → ℕ → Four
    add_quad s k = four_more s (quad k) (get_or xs k nan)

    abbrev pub fours_to : ℕ → Four
    fours_to i = fold_to ws n add_quad (0f, 0f, 0f, 0f) i

    to_end : fours_to n ≡ (product_of ms n j0 xs, product_of ms n j1 xs, product_of ms n j2 xs, product_of ms n iz xs)
    unfolding fold_to
    to_end =
        let a = product_part ms add_quad (0f, 0f, 0f, 0f) n (λ s. s.0) refl j0 xs (λ s i l m. refl) in
        let b = product_part ms add_quad (0f, 0f, 0f, 0f) n (λ s. s.1) refl j1 xs (λ s i l m. refl) in
        let c = product_part ms add_quad (0f, 0f, 0f, 0f) n (λ s. s.2) refl j2 xs (λ s i l m. refl) in
        let d = product_part ms add_quad (0f, 0f, 0f, 0f) n (λ s. s.3) refl iz xs (λ s i l m. refl) in
        λ k. (a k, b k, c k, d k)

  -- a stretch of marked pixels, with the image j, which starts at f in the part
  to_stretch : (j f : ℕ) → ((k : ℕ) → f + k ≡ j * n + k) → (e i : ℕ) (r : Stretch) → e ≤ n → StretchOf ws i e r → (s t : Four) → s ≡ fours_to (image n j part) i →
      t ≡ fours_of part n f s r.from (r.to - r.from) → t ≡ fours_to (image n j part) r.to
  unfolding fours_of
  to_stretch j f at =
      fold_stretch ws n (add_quad (image n j part)) (0f, 0f, 0f, 0f) (λ s k. four_more s (quad_at part n k) (get_or part (f + k) nan)) (λ u k h. ap₂ (four_more u) (quad_is k h) (get_d_place n j k (f + k) part nan h (at k)))

  -- ---- and all sixteen, from q on
  pub record SumsTo (q : ℕ) (m : List Float) (i : ℕ) : Type 0 where
    pub to_j0 : four_in m q ≡ fours_to j0 i
    pub to_j1 : four_in m (q + 4) ≡ fours_to j1 i
    pub to_j2 : four_in m (q + 8) ≡ fours_to j2 i
    pub to_t : four_in m (q + 12) ≡ fours_to tz i

  module _ (q from to : ℕ) (o : Between ms n from to) where
    pub sums_none : (m : List Float) → ((k : ℕ) → k < q + 16 → get_or m k nan ≡ 0f) → SumsTo q m from
    sums_none m zeros =
        let none : (xs : List Float) (i : ℕ) → i + 4 ≤ q + 16 → four_in m i ≡ fours_to xs from = λ xs i h.
        let a = zeros i (omega arith) in
        let b = zeros (i + 1) (omega arith) in
        let c = zeros (i + 2) (omega arith) in
        let d = zeros (i + 3) (omega arith) in
        (λ k. (a k, b k, c k, d k)) ∙ fold_none ws n (add_quad xs) (0f, 0f, 0f, 0f) from to o in
        record { to_j0 = none j0 q (omega arith); to_j1 = none j1 (q + 4) (omega arith); to_j2 = none j2 (q + 8) (omega arith); to_t = none tz (q + 12) (omega arith) }

    -- the end: what is read from the sixteen places
    module _ (m : List Float) (so_far : SumsTo q m to) (a b c d : Four) (ea : a ≡ four_in m q) (eb : b ≡ four_in m (q + 4)) (ec : c ≡ four_in m (q + 8)) (ed : d ≡ four_in m (q + 12)) where
      abbrev matrix : Matrix3
      matrix = record { m00 = a.0; m01 = b.0; m02 = c.0; m10 = a.1; m11 = b.1; m12 = c.1; m20 = a.2; m21 = b.2; m22 = c.2 }

      pub sums_end : (matrix ≡ hessian_of ms n j0 j1 j2) × (◌≡◌ {A = Vector3} (a.3, b.3, c.3) (proj_of ms n j0 j1 j2 iz)) × (◌≡◌ {A = Vector3} (d.0, d.1, d.2) (proj_of ms n j0 j1 j2 tz))
      unfolding hessian_of proj_of
      sums_end =
          let x = ea ∙ so_far.to_j0 ∙ fold_all ws n (add_quad j0) (0f, 0f, 0f, 0f) from to o ∙ to_end j0 in
          let y = eb ∙ so_far.to_j1 ∙ fold_all ws n (add_quad j1) (0f, 0f, 0f, 0f) from to o ∙ to_end j1 in
          let z = ec ∙ so_far.to_j2 ∙ fold_all ws n (add_quad j2) (0f, 0f, 0f, 0f) from to o ∙ to_end j2 in
          let t = ed ∙ so_far.to_t ∙ fold_all ws n (add_quad tz) (0f, 0f, 0f, 0f) from to o ∙ to_end tz in
          let i0 = ap (λ (s : Four). s.3) x ∙ product_comm ms n iz j0 in
          let i1 = ap (λ (s : Four). s.3) y ∙ product_comm ms n iz j1 in
          let i2 = ap (λ (s : Four). s.3) z ∙ product_comm ms n iz j2 in (
            λ k. record { m00 = (x k).0; m01 = (y k).0; m02 = (z k).0; m10 = (x k).1; m11 = (y k).1; m12 = (z k).1; m20 = (x k).2; m21 = (y k).2; m22 = (z k).2 },
            λ k. (i0 k, i1 k, i2 k),
            λ k. ((t k).0, (t k).1, (t k).2),
          )

  -- a turn goes through a stretch of marked pixels
  pub sums_stretch : (q e i : ℕ) (r : Stretch) → e ≤ n → StretchOf ws i e r → (m m' : List Float) → SumsTo q m i → SumsMore part n q r.from (r.to - r.from) m m' → SumsTo q m' r.to
  sums_stretch q e i r within o m m' so_far more = record {
    to_j0 = to_stretch 5 (5 * n) (λ k. refl) e i r within o _ _ so_far.to_j0 more.with_j0;
    to_j1 = to_stretch 0 0 (λ k. omega arith) e i r within o _ _ so_far.to_j1 more.with_j1;
    to_j2 = to_stretch 1 n (λ k. omega arith) e i r within o _ _ so_far.to_j2 more.with_j2;
    to_t = to_stretch 3 (3 * n) (λ k. refl) e i r within o _ _ so_far.to_t more.with_t;
  }

-- ---- the error at a pixel: by the images, and by places of the part
pub error_is : (n : ℕ) (lambda : Float) (tz iz : List Float) (i : ℕ) → i < n → get_or (error_of n lambda tz iz) i nan ≡ lambda ⊗ get_or tz i nan ⊖ get_or iz i nan
unfolding error_of
error_is n lambda tz iz i h = get_d_tab n i (λ k. lambda ⊗ get_or tz k nan ⊖ get_or iz k nan) nan h

pub error_at : (n : ℕ) (part : List Float) (lambda : Float) (i : ℕ) → i < n →
    lambda ⊗ get_or part (3 * n + i) nan ⊖ get_or part (4 * n + i) nan ≡ get_or (error_of n lambda (image n 3 part) (image n 4 part)) i nan
error_at n part lambda i h =
    ap₂ (λ (t z : Float). lambda ⊗ t ⊖ z) (get_d_place n 3 i _ part nan h refl) (get_d_place n 4 i _ part nan h refl)
    ∙ sym (error_is n lambda (image n 3 part) (image n 4 part) i h)
