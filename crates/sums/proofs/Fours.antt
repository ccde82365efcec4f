-- Four numbers put into a list, pixels that are laid out, the sixteen sums of a range of pixels, and a word with a one for each pixel that is still to come. Assumes nothing.
use Prim.Native.Nat.{ℕ, zero, suc, ◌+◌, ◌-◌, ◌*◌, ◌/◌, ◌^◌, ◌≤◌, ◌<◌}
use mathlib.Core.Path.{◌≡◌, refl, ap, ◌∙◌}
use mathlib.Core.Logic.{◌≢◌}
use mathlib.Core.List.{List}
use native.Mathlib.Numerals.{add-one}
use native.Mathlib.Omega.{arith}
use borrow.Author.Count.{below_more}
use lib.ListN.{length, get_or, set, length-set}
use lib.Seq.{get_or-set_same, get_or-set_other}
use lib.Ieee.{Float, nan}
use lib.Pow.{pow_pos, high, ones_split, ones_lt}
use Rattle.lists.specs.Marked.{over_range}
use Rattle.lists.proofs.Fold.{range_none, range_turn}
use Rattle.sums.specs.Fours.{four_in, four_more, quad_at, FourPut, Spread, fours_of, SumsMore}
use Rattle.sums.specs.declared.Four.{Four}

-- ---- four stores, one after another
module _ (m : List Float) (i : ℕ) (v : Four) where
  abbrev m1 : List Float
  m1 = set m i v.0

  abbrev m2 : List Float
  m2 = set m1 (i + 1) v.1

  abbrev m3 : List Float
  m3 = set m2 (i + 2) v.2

  abbrev pub four_set : List Float
  four_set = set m3 (i + 3) v.3

  -- what a store leaves
  from_3 : (k : ℕ) → k ≢ i + 3 → get_or four_set k nan ≡ get_or m3 k nan
  from_3 k h = get_or-set_other m3 (i + 3) k v.3 nan h

  from_2 : (k : ℕ) → k ≢ i + 3 → k ≢ i + 2 → get_or four_set k nan ≡ get_or m2 k nan
  from_2 k h l = from_3 k h ∙ get_or-set_other m2 (i + 2) k v.2 nan l

  from_1 : (k : ℕ) → k ≢ i + 3 → k ≢ i + 2 → k ≢ i + 1 → get_or four_set k nan ≡ get_or m1 k nan
  from_1 k h l u = from_2 k h l ∙ get_or-set_other m1 (i + 1) k v.1 nan u

  from_0 : (k : ℕ) → k ≢ i + 3 → k ≢ i + 2 → k ≢ i + 1 → k ≢ i → get_or four_set k nan ≡ get_or m k nan
  from_0 k h l u w = from_1 k h l u ∙ get_or-set_other m i k v.0 nan w

  pub four_put : i + 4 ≤ length m → FourPut i v m four_set
  four_put fits =
      let a = from_1 i (omega arith) (omega arith) (omega arith) ∙ get_or-set_same m i v.0 nan (omega arith) in
      let b = from_2 (i + 1) (omega arith) (omega arith) ∙ get_or-set_same m1 (i + 1) v.1 nan (simp length-set (omega arith)) in
      let c = from_3 (i + 2) (omega arith) ∙ get_or-set_same m2 (i + 2) v.2 nan (simp length-set (omega arith)) in
      let d = get_or-set_same m3 (i + 3) v.3 nan (simp length-set (omega arith)) in
      record {
        here = λ t. (a t, b t, c t, d t);
        below = λ k h. from_0 k (omega arith) (omega arith) (omega arith) (omega arith);
        above = λ k h. from_0 k (omega arith) (omega arith) (omega arith) (omega arith);
      }

-- four numbers of which none changes
four_same : (m m' : List Float) (j : ℕ) → ((k : ℕ) → j ≤ k → k < j + 4 → get_or m' k nan ≡ get_or m k nan) → four_in m' j ≡ four_in m j
four_same m m' j same =
    let a = same j (omega arith) (omega arith) in
    let b = same (j + 1) (omega arith) (omega arith) in
    let c = same (j + 2) (omega arith) (omega arith) in
    let d = same (j + 3) (omega arith) (omega arith) in
    λ t. (a t, b t, c t, d t)

four_below : {i : ℕ} {v : Four} {m m' : List Float} → FourPut i v m m' → (j : ℕ) → j + 4 ≤ i → four_in m' j ≡ four_in m j
four_below {m = m} {m' = m'} p j h = four_same m m' j (λ k l u. p.below k (omega arith))

-- ---- pixels that are laid out, one more at a turn
module _ (part : List Float) (n at : ℕ) (m₀ : List Float) where
  pub spread_none : Spread part n at 0 m₀ m₀
  spread_none = record { quads = λ k h. absurd (omega arith); behind = λ k h. refl }

  pub spread_more : (k : ℕ) (m : List Float) → 4 * k + 4 ≤ length m → Spread part n at k m₀ m → Spread part n at (k + 1) m₀ (four_set m (4 * k) (quad_at part n (at + k)))
  spread_more k m fits o =
      let p = four_put m (4 * k) (quad_at part n (at + k)) fits in
      record {
        quads = below_more _ _ (λ j h. four_below p (4 * j) (omega arith) ∙ o.quads j h) p.here;
        behind = λ j h. p.above j (omega arith) ∙ o.behind j (omega arith);
      }

-- ---- a range that goes on where another ends
range_join : {S : Type 0} (step : S → ℕ → S) (s : S) (a i k : ℕ) → a ≤ i → over_range step (over_range step s a (i - a)) i k ≡ over_range step s a (i + k - a)
unfolding over_range
range_join step s a i zero h = let e : i - a ≡ i + 0 - a = omega arith in ap (over_range step s a) e
range_join step s a i (suc k) h =
    let e : i + k + 1 - a ≡ i + suc k - a = omega arith in
    range_turn step s a (i + k) _ (omega arith) (range_join step s a i k h) ∙ ap (over_range step s a) e

-- ---- the sums of a range of pixels: four of them, with the numbers from f on
module _ (part : List Float) (n f : ℕ) (s : Four) (at : ℕ) where
  pub fours_none : s ≡ fours_of part n f s at 0
  unfolding fours_of over_range
  fours_none = refl

  pub fours_turn : (k : ℕ) (t v : Four) (x : Float) → t ≡ fours_of part n f s at k → v ≡ quad_at part n (at + k) → x ≡ get_or part (f + (at + k)) nan → four_more t v x ≡ fours_of part n f s at (k + 1)
  unfolding fours_of over_range
  fours_turn k t v x e p q = rw (add-one k, e, p, q)

  fours_join : (i k : ℕ) → at ≤ i → fours_of part n f (fours_of part n f s at (i - at)) i k ≡ fours_of part n f s at (i + k - at)
  unfolding fours_of
  fours_join i k h = range_join _ s at i k h

-- ---- and all sixteen
module _ (part : List Float) (n q : ℕ) where
  pub more_none : (at : ℕ) (m : List Float) → SumsMore part n q at (at - at) m m
  unfolding fours_of
  more_none at m = record { with_j0 = range_none _ _ at; with_j1 = range_none _ _ at; with_j2 = range_none _ _ at; with_t = range_none _ _ at }

  -- they are put back one after another
  pub more_put : (at len : ℕ) (m m1 m2 m3 m4 : List Float) (a b c d : Four) → FourPut q a m m1 → FourPut (q + 4) b m1 m2 → FourPut (q + 8) c m2 m3 → FourPut (q + 12) d m3 m4 →
      a ≡ fours_of part n (5 * n) (four_in m q) at len → b ≡ fours_of part n 0 (four_in m (q + 4)) at len → c ≡ fours_of part n n (four_in m (q + 8)) at len → d ≡ fours_of part n (3 * n) (four_in m (q + 12)) at len →
      SumsMore part n q at len m m4
  more_put at len m m1 m2 m3 m4 a b c d pa pb pc pd ea eb ec ed =
      record {
        with_j0 = four_below pd q (omega arith) ∙ four_below pc q (omega arith) ∙ four_below pb q (omega arith) ∙ pa.here ∙ ea;
        with_j1 = four_below pd (q + 4) (omega arith) ∙ four_below pc (q + 4) (omega arith) ∙ pb.here ∙ eb;
        with_j2 = four_below pd (q + 8) (omega arith) ∙ pc.here ∙ ec;
        with_t = pd.here ∙ ed;
      }

  -- pixels are laid out before the sums, and then added to them
  pub more_turn : (at i len : ℕ) (m₀ m m1 m2 : List Float) → at ≤ i → 4 * len ≤ q → SumsMore part n q at (i - at) m₀ m → Spread part n i len m m1 → SumsMore part n q i len m1 m2 → SumsMore part n q at (i + len - at) m₀ m2
  more_turn at i len m₀ m m1 m2 order room so_far o more =
      let same : (j : ℕ) → q ≤ j → four_in m1 j ≡ four_in m j = λ j h. four_same m m1 j (λ k l u. o.behind k (omega arith)) in
      record {
        with_j0 = more.with_j0 ∙ ap (λ (s : Four). fours_of part n (5 * n) s i len) (same q (omega arith) ∙ so_far.with_j0) ∙ fours_join part n (5 * n) _ at i len order;
        with_j1 = more.with_j1 ∙ ap (λ (s : Four). fours_of part n 0 s i len) (same (q + 4) (omega arith) ∙ so_far.with_j1) ∙ fours_join part n 0 _ at i len order;
        with_j2 = more.with_j2 ∙ ap (λ (s : Four). fours_of part n n s i len) (same (q + 8) (omega arith) ∙ so_far.with_j2) ∙ fours_join part n n _ at i len order;
        with_t = more.with_t ∙ ap (λ (s : Four). fours_of part n (3 * n) s i len) (same (q + 12) (omega arith) ∙ so_far.with_t) ∙ fours_join part n (3 * n) _ at i len order;
      }

-- ---- a word with a one for each pixel that is still to come
pub ones_all : (len : ℕ) → len ≤ 64 → (2 ^ 64 - 1) / 2 ^ (64 - len) ≡ 2 ^ len - 1
ones_all len h =
    let e : 64 ≡ len + (64 - len) = omega arith in
    ap (λ (x : ℕ). (2 ^ x - 1) / 2 ^ (64 - len)) e ∙ ap (λ (x : ℕ). x / 2 ^ (64 - len)) (ones_split len (64 - len)) ∙ high (2 ^ len - 1) (64 - len) (ones_lt (64 - len))

pub ones_turn : (len k left : ℕ) → k < len → left ≡ 2 ^ (len - k) - 1 → left / 2 ≡ 2 ^ (len - (k + 1)) - 1
ones_turn len k left h e =
    let s : len - k ≡ suc (len - (k + 1)) = omega arith in
    omega (arith, e ∙ ap (λ (x : ℕ). 2 ^ x - 1) s, pow_pos (len - (k + 1)))

-- there is one as long as there is a pixel
ones_some : (j left : ℕ) → left ≡ 2 ^ j - 1 → left ≢ 0 → 0 < j
ones_some zero left e h = absurd (h e)
ones_some (suc j) left e h = omega arith

ones_none : (j left : ℕ) → left ≡ 2 ^ j - 1 → left ≡ 0 → j ≡ 0
ones_none zero left e h = refl
ones_none (suc j) left e h = absurd (omega (arith, pow_pos j))

pub ones_left : (len k left : ℕ) → left ≡ 2 ^ (len - k) - 1 → left ≢ 0 → k < len
ones_left len k left e h = omega (arith, ones_some (len - k) left e h)

pub ones_over : (len k left : ℕ) → k ≤ len → left ≡ 2 ^ (len - k) - 1 → left ≡ 0 → k ≡ len
ones_over len k left h e z = omega (arith, ones_none (len - k) left e z)
