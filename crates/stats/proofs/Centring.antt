-- What the loop of the statistics holds: only the images 4 and 5 have changed, the marked places passed hold the centred numbers, and the three sums
-- are those over these places. At the end these are the definitions' statistics. Assumes nothing.
use Prim.Native.Nat.{ℕ, ◌+◌, ◌-◌, ◌*◌, ◌≤◌, ◌<◌}
use mathlib.Core.Path.{◌≡◌, refl, sym, ap, ap₂, ◌∙◌}
use mathlib.Core.Bool.{true, false, true≢false}
use mathlib.Core.List.{List}
use mathlib.Core.Logic.{inl, inr}
use native.Mathlib.Omega.{arith}
use lib.ListN.{length, take, drop, get_or}
use lib.Ieee.{Float, nan}
use Rattle.lists.specs.Lists.{image}
use Rattle.lists.specs.Marked.{pick, over_marked, over_range}
use Rattle.lists.proofs.Cases.{pick_true}
use Rattle.lists.proofs.Grow.{get_d_tab}
use Rattle.lists.proofs.Images.{get_d_image, get_d_place}
use Rattle.marks.specs.Marks.{on}
use Rattle.bits.specs.Words.{unpacked_of}
use Rattle.bits.specs.Stretches.{StretchOf}
use Rattle.bits.specs.declared.Stretch.{Stretch}
use Rattle.bits.proofs.Scan.{lt_or_le}
use Rattle.bits.proofs.Stretches.{stretch_bare, stretch_turn}
use Rattle.rows.specs.Between.{Between, FoldBetween}
use Rattle.rows.proofs.Between.{fold_between}
use Rattle.floats.specs.F32.{◌⊕◌, ◌⊖◌, ◌⊗◌, 0f}
use Rattle.root.specs.Root.{sqrt_of}
use Rattle.stats.specs.Stats.{mean_of, centred_of, product_of, stats_of, Centred}
use Rattle.stats.specs.declared.Means.{Means}
use Rattle.stats.specs.declared.Products.{Products}
use Rattle.stats.proofs.Turns.{product_part}
use Rattle.stats.proofs.Rest.{own_images}
use Rattle.stats.proofs.Filling.{t_at, i_at, add_three, t_same, i_same, three_same, Through, filled, filled_take, all_size, all_drop, t_through, i_through}

-- the marked places below i of the image that starts at b hold the numbers of the rule
abbrev AtMarked : List ℕ → ℕ → ℕ → (ℕ → Float) → List Float → Type 0
AtMarked ms b i f part = (k : ℕ) → k < i → on ms k ≡ true → get_or part (b + k) nan ≡ f k

-- a stretch further: the places between i and the stretch are not marked
further : (ms : List ℕ) (i from to b : ℕ) (f g : ℕ → Float) (part part' : List Float) → AtMarked ms b i f part → Through from to b g part part' →
    ((k : ℕ) → i ≤ k → k < from → on ms k ≡ false) → ((k : ℕ) → k < to → g k ≡ f k) → AtMarked ms b to f part'
further ms i from to b f g part part' so_far t bare same k l m =
    elim (lt_or_le k from) [
      | inl h ↦ elim (lt_or_le k i) [ inl q ↦ t.kept k h ∙ so_far k q m | inr q ↦ absurd (true≢false (sym m ∙ bare k q h)) ]
      | inr h ↦ t.new k h l ∙ same k l
    ]

module _ (ws : List ℕ) (n : ℕ) (mean : Means) (xs : List Float) where
  abbrev ms : List ℕ
  ms = unpacked_of ws n

  -- the part when the loop is at the place i
  pub record CentredTo (i : ℕ) (part : List Float) : Type 0 where
    pub size : length part ≡ length xs
    pub before : take (4 * n) part ≡ take (4 * n) xs
    pub after : drop (6 * n) part ≡ drop (6 * n) xs
    pub template : AtMarked ms (4 * n) i (t_at n mean xs) part
    pub warped : AtMarked ms (5 * n) i (i_at n mean xs) part

  -- the three sums over the marked places below i
  pub three_of : ℕ → Products
  three_of i = over_marked (on ms) (add_three n mean xs) (0f, 0f, 0f) i

  -- where the marks begin, and where they end
  module _ (from to : ℕ) (o : Between ms n from to) where
    pub centred_none : CentredTo from xs
    centred_none = record {
      size = refl;
      before = refl;
      after = refl;
      template = λ k l m. absurd (true≢false (sym m ∙ o.before k l));
      warped = λ k l m. absurd (true≢false (sym m ∙ o.before k l));
    }

    all_marked : (b : ℕ) (f : ℕ → Float) (part : List Float) → AtMarked ms b to f part → AtMarked ms b n f part
    all_marked b f part so_far k l m = elim (lt_or_le k to) [ inl h ↦ so_far k h m | inr h ↦ absurd (true≢false (sym m ∙ o.behind k h l)) ]

    pub centred_all : (part : List Float) → CentredTo to part → CentredTo n part
    centred_all part c = record {
      size = c.size;
      before = c.before;
      after = c.after;
      template = all_marked (4 * n) _ part c.template;
      warped = all_marked (5 * n) _ part c.warped;
    }

    pub three_none : ◌≡◌ {A = Products} (0f, 0f, 0f) (three_of from)
    unfolding three_of FoldBetween
    three_none = (fold_between Products ms n from to o (add_three n mean xs) (0f, 0f, 0f)).0

    pub three_all : three_of to ≡ three_of n
    unfolding three_of FoldBetween
    three_all = (fold_between Products ms n from to o (add_three n mean xs) (0f, 0f, 0f)).1

  module _ (fits : 6 * n ≤ length xs) (e i : ℕ) (r : Stretch) (within : e ≤ n) (o : StretchOf ws i e r) (part : List Float) (so_far : CentredTo i part) where
    pub centred_turn : (part' : List Float) → part' ≡ filled n r.from mean part (r.to - r.from) → CentredTo r.to part'
    centred_turn part' is =
        let room : 6 * n ≤ length part = omega arith in
        let few : r.to ≤ n = omega (arith, o.high) in
        rw is (record {
          size = all_size n r.from mean part r.to o.order few room ∙ so_far.size;
          before = filled_take n r.from mean part r.to o.order few room r.to o.order (omega arith) ∙ so_far.before;
          after = all_drop n r.from mean part r.to o.order few room ∙ so_far.after;
          template = further ms i r.from r.to (4 * n) _ _ part _ so_far.template (t_through n r.from mean part r.to o.order few room) (stretch_bare ws n e i r within o)
              (λ k l. t_same n mean xs part so_far.before k (omega arith));
          warped = further ms i r.from r.to (5 * n) _ _ part _ so_far.warped (i_through n r.from mean part r.to o.order few room) (stretch_bare ws n e i r within o)
              (λ k l. i_same n mean xs part so_far.before k (omega arith));
        })

    pub three_turn : (s : Products) → s ≡ three_of i → (t : Products) → t ≡ over_range (add_three n mean part) s r.from (r.to - r.from) → t ≡ three_of r.to
    unfolding three_of
    three_turn s p t q = q ∙ stretch_turn ws n e i r within o (add_three n mean xs) (add_three n mean part) (0f, 0f, 0f) s p (λ u k h. three_same n mean xs part so_far.before k h u)

-- ---- at the end

-- a marked pixel of a centred image: a is its place in the part
centred_here : (ms : List ℕ) (n j : ℕ) (xs : List Float) (k a : ℕ) → a ≡ j * n + k → k < n → on ms k ≡ true → get_or xs a nan ⊖ mean_of ms n (image n j xs) ≡ get_or (centred_of ms n (image n j xs)) k nan
unfolding centred_of
centred_here ms n j xs k a e l m =
    let mean = mean_of ms n (image n j xs) in
    ap (λ (x : Float). x ⊖ mean) (get_d_place n j k a xs nan l e)
    ∙ sym (get_d_tab n k (λ i. pick (on ms i) (get_or (image n j xs) i nan ⊖ mean) 0f) nan l ∙ pick_true (on ms k) _ 0f m)

module _ (ws : List ℕ) (n : ℕ) (xs : List Float) where
  abbrev marks : List ℕ
  marks = unpacked_of ws n

  abbrev tz : List Float
  tz = centred_of marks n (image n 3 xs)

  abbrev iz : List Float
  iz = centred_of marks n (image n 0 xs)

  abbrev means : Means
  means = (mean_of marks n (image n 3 xs), mean_of marks n (image n 0 xs))

  t_here : (k : ℕ) → k < n → on marks k ≡ true → t_at n means xs k ≡ get_or tz k nan
  t_here k l m = centred_here marks n 3 xs k (3 * n + k) refl l m

  i_here : (k : ℕ) → k < n → on marks k ≡ true → i_at n means xs k ≡ get_or iz k nan
  i_here k l m = centred_here marks n 0 xs k k (omega arith) l m

  three_products : three_of ws n means xs n ≡ (product_of marks n tz tz, product_of marks n iz iz, product_of marks n tz iz)
  unfolding three_of
  three_products =
      let add = add_three n means xs in
      let a = product_part marks add (0f, 0f, 0f) n (λ t. t.0) refl tz tz (λ u k l m. ap₂ (λ (x y : Float). u.0 ⊕ x ⊗ y) (t_here k l m) (t_here k l m)) in
      let b = product_part marks add (0f, 0f, 0f) n (λ t. t.1) refl iz iz (λ u k l m. ap₂ (λ (x y : Float). u.1 ⊕ x ⊗ y) (i_here k l m) (i_here k l m)) in
      let c = product_part marks add (0f, 0f, 0f) n (λ t. t.2) refl tz iz (λ u k l m. ap₂ (λ (x y : Float). u.2 ⊕ x ⊗ y) (t_here k l m) (i_here k l m)) in
      λ j. (a j, b j, c j)

  pub centred_end : 6 * n ≤ length xs → (mean : Means) → mean ≡ means → (part : List Float) → CentredTo ws n mean xs n part → (s : Products) → s ≡ three_of ws n mean xs n →
      (p q : Float) → p ≡ sqrt_of s.0 → q ≡ sqrt_of s.1 → Centred marks n xs part (record { tmp_norm = p; img_norm = q; corr = s.2 })
  unfolding stats_of
  centred_end fits mean em part ct s es p q hp hq =
      let at = rw em at ct in
      let three = es ∙ ap (λ (m : Means). three_of ws n m xs n) em ∙ three_products in
      record {
        rest = own_images n xs part fits at.size at.before at.after;
        template = λ k l m. get_d_image n 4 k part nan l ∙ at.template k l m ∙ t_here k l m;
        warped = λ k l m. get_d_image n 5 k part nan l ∙ at.warped k l m ∙ i_here k l m;
        answer = rw (hp, hq, three);
      }
