-- Loops that fill a list: one run of it or several, one behind the other, a place or a row at a turn. `none` is the loop's start, `more` its turn. Assumes nothing.
use Prim.Native.Nat.{ℕ, suc, ◌+◌, ◌*◌, ◌≤◌, ◌<◌}
use mathlib.Core.Path.{◌≡◌, refl, sym, ap, ◌∙◌}
use mathlib.Core.List.{List, [], ◌∷◌, ◌++◌}
use native.Mathlib.Nat.{add-zero, zero-add, mul-le-mul_right}
use native.Mathlib.Omega.{arith}
use lib.ListN.{length, take, drop, get_or, set, length-set, replicate, length-replicate}
use Rattle.lists.specs.Lists.{grow, tab, grid, put}
use Rattle.lists.proofs.Grow.{grow_zero, grow_more, length_grow, tab_is, length_tab, tab_ext, tab_add, tab_const, get_d_tab, tab_more}
use Rattle.lists.proofs.Put.{put_none, length_put, put_put, put_comm, take_put, get_d_put_before, get_d_put_after, set_is_put, put_again, get_d_put_in}
use native.Mathlib.Numerals.{add-one}
use lib.Seq.{take-suc-set}

-- ---- one run at a, by pieces of s elements
module _ {A : Type 0} (p : ℕ → List A) (s : ℕ) (each : (i : ℕ) → length (p i) ≡ s) (xs : List A) (a : ℕ) where
  run_none : xs ≡ put xs a (grow p 0)
  run_none = sym (ap (put xs a) (grow_zero p) ∙ put_none xs a)

  run_more : (i : ℕ) → a + i * s + s ≤ length xs → put (put xs a (grow p i)) (a + i * s) (p i) ≡ put xs a (grow p (i + 1))
  run_more i h =
      let n : length (grow p i) ≡ i * s = length_grow p s each i in
      let m : length (p i) ≡ s = each i in
      ap (λ (k : ℕ). put (put xs a (grow p i)) (a + k) (p i)) (sym n) ∙ put_put xs a (grow p i) (p i) (omega arith) ∙ ap (put xs a) (sym (grow_more p i))

  module _ (i : ℕ) (fits : a + i * s ≤ length xs) where
    within : a + length (grow p i) ≤ length xs
    within = rw (length_grow p s each i) fits

    length_run : length (put xs a (grow p i)) ≡ length xs
    length_run = length_put xs a (grow p i) within

    take_run : (k : ℕ) → k ≤ a → take k (put xs a (grow p i)) ≡ take k xs
    take_run k h = take_put xs a (grow p i) within k h

    run_before : (k : ℕ) (d : A) → k < a → get_or (put xs a (grow p i)) k d ≡ get_or xs k d
    run_before k d h = get_d_put_before xs a (grow p i) within k d h

    run_after : (k : ℕ) (d : A) → a + i * s ≤ k → get_or (put xs a (grow p i)) k d ≡ get_or xs k d
    run_after k d h = get_d_put_after xs a (grow p i) within k d (rw (length_grow p s each i) h)

-- ---- a place at a turn

-- the number of places is the number of turns
turns : (a i : ℕ) → a + i * 1 ≡ a + i
turns a i = omega arith

one : {A : Type 0} (f : ℕ → A) (i : ℕ) → length (f i ∷ []) ≡ 1
one f i = refl

module _ {A : Type 0} (xs : List A) (a : ℕ) (f : ℕ → A) where
  pub fill_none : xs ≡ put xs a (tab 0 f)
  unfolding tab
  fill_none = run_none (λ i. f i ∷ []) 1 (one f) xs a

  pub fill_more : (i : ℕ) (v : A) → a + i < length xs → v ≡ f i → set (put xs a (tab i f)) (a + i) v ≡ put xs a (tab (i + 1) f)
  unfolding tab
  fill_more i v h e =
      let p : ℕ → List A = λ k. f k ∷ [] in
      let n : length (put xs a (grow p i)) ≡ length xs = length_run p 1 (one f) xs a i (omega arith) in
      set_is_put (put xs a (grow p i)) (a + i) v (omega arith)
      ∙ ap (λ (y : A). put (put xs a (grow p i)) (a + i) (y ∷ [])) e
      ∙ ap (λ (k : ℕ). put (put xs a (grow p i)) k (p i)) (sym (turns a i))
      ∙ run_more p 1 (one f) xs a i (omega arith)

  module _ (i : ℕ) (fits : a + i ≤ length xs) where
    pub length_fill : length (put xs a (tab i f)) ≡ length xs
    unfolding tab
    length_fill = length_run (λ k. f k ∷ []) 1 (one f) xs a i (rw (turns a i) fits)

    pub take_fill : (k : ℕ) → k ≤ a → take k (put xs a (tab i f)) ≡ take k xs
    unfolding tab
    take_fill k h = take_run (λ k. f k ∷ []) 1 (one f) xs a i (rw (turns a i) fits) k h

    pub fill_before : (k : ℕ) (d : A) → k < a → get_or (put xs a (tab i f)) k d ≡ get_or xs k d
    unfolding tab
    fill_before k d h = run_before (λ k. f k ∷ []) 1 (one f) xs a i (rw (turns a i) fits) k d h

    pub fill_after : (k : ℕ) (d : A) → a + i ≤ k → get_or (put xs a (tab i f)) k d ≡ get_or xs k d
    unfolding tab
    fill_after k d h = run_after (λ k. f k ∷ []) 1 (one f) xs a i (rw (turns a i) fits) k d (rw (turns a i) h)

-- from the front of a list, where the place is the turn itself
pub front_more : {A : Type 0} (xs : List A) (f : ℕ → A) (i : ℕ) (v : A) → i < length xs → v ≡ f i → set (put xs 0 (tab i f)) i v ≡ put xs 0 (tab (i + 1) f)
front_more xs f i v h e = ap (λ (k : ℕ). set (put xs 0 (tab i f)) k v) (sym (zero-add i)) ∙ fill_more xs 0 f i v (rw zero-add h) e

-- the front filled with one value
pub front_is : {A : Type 0} (xs : List A) (n : ℕ) (v : A) → put xs 0 (tab n (λ _. v)) ≡ replicate n v ++ drop n xs
unfolding put
front_is xs n v = rw (tab_const n v, length-replicate, zero-add)

-- one store begins a run
-- a front filled over: what stood there before does not matter
pub front_over : {A : Type 0} (xs ys : List A) (n : ℕ) (v : A) → drop n xs ≡ drop n ys → put xs 0 (tab n (λ _. v)) ≡ put ys 0 (tab n (λ _. v))
front_over xs ys n v e = front_is xs n v ∙ ap (◌++◌ (replicate n v)) e ∙ sym (front_is ys n v)

pub fill_one : {A : Type 0} (xs : List A) (a : ℕ) (f : ℕ → A) (v : A) → a < length xs → v ≡ f 0 → set xs a v ≡ put xs a (tab 1 f)
fill_one {A} xs a f v h e =
    ap (λ (z : List A). set z a v) (fill_none xs a f)
    ∙ ap (λ (k : ℕ). set (put xs a (tab 0 f)) k v) (sym (add-zero a))
    ∙ fill_more xs a f 0 v (rw add-zero h) e

-- a run of one rule goes on with a run of another that agrees with it
pub fill_join : {A : Type 0} (xs : List A) (a m k : ℕ) (f g : ℕ → A) → a + m + k ≤ length xs → ((i : ℕ) → i < k → g i ≡ f (m + i)) →
    put (put xs a (tab m f)) (a + m) (tab k g) ≡ put xs a (tab (m + k) f)
fill_join xs a m k f g h e =
    let q : a + length (tab m f) ≡ a + m = ap (λ (j : ℕ). a + j) (length_tab m f) in
    ap (put (put xs a (tab m f)) (a + m)) (tab_ext k g (λ i. f (m + i)) e)
    ∙ ap (λ (j : ℕ). put (put xs a (tab m f)) j (tab k (λ i. f (m + i)))) (sym q)
    ∙ put_put xs a (tab m f) (tab k (λ i. f (m + i))) (simp length_tab h)
    ∙ ap (put xs a) (sym (tab_add m k f))

-- ---- a row at a turn
module _ {A : Type 0} (xs : List A) (a w : ℕ) (g : ℕ → ℕ → A) where
  pub rows_none : xs ≡ put xs a (grid w 0 g)
  unfolding grid
  rows_none = run_none (λ y. tab w (λ x. g x y)) w (λ y. length_tab w (λ x. g x y)) xs a

  pub rows_more : (y : ℕ) → a + y * w + w ≤ length xs → put (put xs a (grid w y g)) (a + y * w) (tab w (λ x. g x y)) ≡ put xs a (grid w (y + 1) g)
  unfolding grid
  rows_more y h = run_more (λ y. tab w (λ x. g x y)) w (λ y. length_tab w (λ x. g x y)) xs a y h

  module _ (y : ℕ) (fits : a + y * w ≤ length xs) where
    pub length_rows : length (put xs a (grid w y g)) ≡ length xs
    unfolding grid
    length_rows = length_run (λ y. tab w (λ x. g x y)) w (λ y. length_tab w (λ x. g x y)) xs a y fits

    pub take_rows : (k : ℕ) → k ≤ a → take k (put xs a (grid w y g)) ≡ take k xs
    unfolding grid
    take_rows k h = take_run (λ y. tab w (λ x. g x y)) w (λ y. length_tab w (λ x. g x y)) xs a y fits k h

    pub rows_before : (k : ℕ) (d : A) → k < a → get_or (put xs a (grid w y g)) k d ≡ get_or xs k d
    unfolding grid
    rows_before k d h = run_before (λ y. tab w (λ x. g x y)) w (λ y. length_tab w (λ x. g x y)) xs a y fits k d h

    pub rows_after : (k : ℕ) (d : A) → a + y * w ≤ k → get_or (put xs a (grid w y g)) k d ≡ get_or xs k d
    unfolding grid
    rows_after k d h = run_after (λ y. tab w (λ x. g x y)) w (λ y. length_tab w (λ x. g x y)) xs a y fits k d h

-- row y of an image w wide and h high lies within it
pub row_in : (w y h : ℕ) → y < h → y * w + w ≤ w * h
row_in w y h p = omega (arith, mul-le-mul_right {m = suc y} {n = h} w p)

-- ---- several runs of one list, filled side by side

-- a run: where it starts, and its pieces
abbrev pub Run : Type 0 → Type 0
Run A = ℕ × (ℕ → List A)

-- the first i pieces of each run
abbrev pub runs : {A : Type 0} → List A → List (Run A) → ℕ → List A
runs xs [] i = xs
runs xs (r ∷ rs) i = runs (put xs r.0 (grow r.1 i)) rs i

-- the piece i of each run
abbrev pub pieces : {A : Type 0} → List A → List (Run A) → ℕ → ℕ → List A
pieces xs [] s i = xs
pieces xs (r ∷ rs) s i = pieces (put xs (r.0 + i * s) (r.1 i)) rs s i

-- runs of k elements each, from lo on, one behind the other, up to len; each piece has s elements
abbrev pub Apart : {A : Type 0} → List (Run A) → ℕ → ℕ → ℕ → ℕ → Type 0
Apart [] s k lo len = lo ≤ len
Apart (r ∷ rs) s k lo len = (lo ≤ r.0) × ((i : ℕ) → length (r.1 i) ≡ s) × Apart rs s k (r.0 + k) len

apart_le : {A : Type 0} (rs : List (Run A)) (s k lo len : ℕ) → Apart rs s k lo len → lo ≤ len
apart_le [] s k lo len h = h
apart_le (r ∷ rs) s k lo len h = let q = apart_le rs s k (r.0 + k) len h.2 in let l = h.0 in omega arith

pub runs_none : {A : Type 0} (xs : List A) (rs : List (Run A)) → xs ≡ runs xs rs 0
runs_none xs [] = refl
runs_none {A} xs (r ∷ rs) = runs_none xs rs ∙ ap (λ (z : List A). runs z rs 0) (sym (ap (put xs r.0) (grow_zero r.1) ∙ put_none xs r.0))

-- i of n pieces fit where n do
room : (s n i : ℕ) → i ≤ n → (a len : ℕ) → a + n * s ≤ len → a + i * s ≤ len
room s n i few a len h = omega (arith, mul-le-mul_right s few)

module _ {A : Type 0} (s n i : ℕ) (few : i ≤ n) where
  pub length_runs : (xs : List A) (rs : List (Run A)) (lo : ℕ) → Apart rs s (n * s) lo (length xs) → length (runs xs rs i) ≡ length xs
  length_runs xs [] lo h = refl
  length_runs xs (r ∷ rs) lo h =
      let e = length_run r.1 s h.1 xs r.0 i (room s n i few r.0 (length xs) (apart_le rs s (n * s) (r.0 + n * s) (length xs) h.2)) in
      length_runs (put xs r.0 (grow r.1 i)) rs (r.0 + n * s) (rw e h.2) ∙ e

  pub take_runs : (xs : List A) (rs : List (Run A)) (lo k : ℕ) → Apart rs s (n * s) lo (length xs) → k ≤ lo → take k (runs xs rs i) ≡ take k xs
  take_runs xs [] lo k h p = refl
  take_runs xs (r ∷ rs) lo k h p =
      let q = room s n i few r.0 (length xs) (apart_le rs s (n * s) (r.0 + n * s) (length xs) h.2) in
      let e = length_run r.1 s h.1 xs r.0 i q in
      let l = h.0 in
      take_runs (put xs r.0 (grow r.1 i)) rs (r.0 + n * s) k (rw e h.2) (omega arith) ∙ take_run r.1 s h.1 xs r.0 i q k (omega arith)

  -- what is put before every run may as well have been put first
  under_runs : (xs : List A) (rs : List (Run A)) (lo b : ℕ) (l : List A) → Apart rs s (n * s) lo (length xs) → b + length l ≤ lo → put (runs xs rs i) b l ≡ runs (put xs b l) rs i
  under_runs xs [] lo b l h p = refl
  under_runs xs (r ∷ rs) lo b l h p =
      let q = room s n i few r.0 (length xs) (apart_le rs s (n * s) (r.0 + n * s) (length xs) h.2) in
      let e = length_run r.1 s h.1 xs r.0 i q in
      let g : length (grow r.1 i) ≡ i * s = length_grow r.1 s h.1 i in
      let o = h.0 in
      under_runs (put xs r.0 (grow r.1 i)) rs (r.0 + n * s) b l (rw e h.2) (omega arith)
      ∙ ap (λ (z : List A). runs z rs i) (sym (put_comm xs b r.0 l (grow r.1 i) (omega arith) (omega arith)))

-- THE LAW: one more piece of each
pub runs_more : {A : Type 0} (s n i : ℕ) → i < n → (xs : List A) (rs : List (Run A)) (lo : ℕ) → Apart rs s (n * s) lo (length xs) → pieces (runs xs rs i) rs s i ≡ runs xs rs (i + 1)
runs_more s n i few xs [] lo h = refl
runs_more {A} s n i few xs (r ∷ rs) lo h =
    let w : i * s + s ≤ n * s = omega (arith, mul-le-mul_right {m = suc i} {n = n} s few) in
    let t = apart_le rs s (n * s) (r.0 + n * s) (length xs) h.2 in
    let e = length_run r.1 s h.1 xs r.0 i (omega arith) in
    let e' = length_run r.1 s h.1 xs r.0 (i + 1) (omega arith) in
    let m : length (r.1 i) ≡ s = h.1 i in
    ap (λ (z : List A). pieces z rs s i) (under_runs s n i (omega arith) (put xs r.0 (grow r.1 i)) rs (r.0 + n * s) (r.0 + i * s) (r.1 i) (rw e h.2) (omega arith))
    ∙ ap (λ (z : List A). pieces (runs z rs i) rs s i) (run_more r.1 s h.1 xs r.0 i (omega arith))
    ∙ runs_more s n i few (put xs r.0 (grow r.1 (i + 1))) rs (r.0 + n * s) (rw e' h.2)

-- ---- several runs, a place of each at a turn: a run is where it starts and its rule

abbrev pub fills : {A : Type 0} → List A → List (ℕ × (ℕ → A)) → ℕ → List A
fills xs [] i = xs
fills xs (t ∷ ts) i = fills (put xs t.0 (tab i t.1)) ts i

abbrev pub stores : {A : Type 0} → List A → List (ℕ × (ℕ → A)) → ℕ → List A
stores xs [] i = xs
stores xs (t ∷ ts) i = stores (set xs (t.0 + i) (t.1 i)) ts i

abbrev pub Spaced : {A : Type 0} → List (ℕ × (ℕ → A)) → ℕ → ℕ → ℕ → Type 0
Spaced [] k lo len = lo ≤ len
Spaced (t ∷ ts) k lo len = (lo ≤ t.0) × Spaced ts k (t.0 + k) len

-- the same runs by pieces
singles : {A : Type 0} → List (ℕ × (ℕ → A)) → List (Run A)
singles [] = []
singles (t ∷ ts) = (t.0, λ i. t.1 i ∷ []) ∷ singles ts

spaced_apart : {A : Type 0} (ts : List (ℕ × (ℕ → A))) (n lo len : ℕ) → Spaced ts n lo len → Apart (singles ts) 1 (n * 1) lo len
unfolding singles
spaced_apart [] n lo len h = h
spaced_apart (t ∷ ts) n lo len h = (h.0, one t.1, rw (turns t.0 n) (spaced_apart ts n (t.0 + n) len h.1))

spaced_le : {A : Type 0} (ts : List (ℕ × (ℕ → A))) (n lo len : ℕ) → Spaced ts n lo len → lo ≤ len
spaced_le [] n lo len h = h
spaced_le (t ∷ ts) n lo len h = let q = spaced_le ts n (t.0 + n) len h.1 in let l = h.0 in omega arith

fills_are : {A : Type 0} (xs : List A) (ts : List (ℕ × (ℕ → A))) (i : ℕ) → fills xs ts i ≡ runs xs (singles ts) i
unfolding singles
fills_are xs [] i = refl
fills_are {A} xs (t ∷ ts) i = fills_are (put xs t.0 (tab i t.1)) ts i ∙ ap (λ (z : List A). runs (put xs t.0 z) (singles ts) i) (tab_is i t.1)

stores_are : {A : Type 0} (n i : ℕ) → i < n → (xs : List A) (ts : List (ℕ × (ℕ → A))) (lo : ℕ) → Spaced ts n lo (length xs) → stores xs ts i ≡ pieces xs (singles ts) 1 i
unfolding singles
stores_are n i few xs [] lo h = refl
stores_are {A} n i few xs (t ∷ ts) lo h =
    let q = spaced_le ts n (t.0 + n) (length xs) h.1 in
    let e : length (set xs (t.0 + i) (t.1 i)) ≡ length xs = simp length-set in
    stores_are n i few (set xs (t.0 + i) (t.1 i)) ts (t.0 + n) (rw e h.1)
    ∙ ap (λ (z : List A). pieces z (singles ts) 1 i) (set_is_put xs (t.0 + i) (t.1 i) (omega arith) ∙ ap (λ (k : ℕ). put xs k (t.1 i ∷ [])) (sym (turns t.0 i)))

pub fills_none : {A : Type 0} (xs : List A) (ts : List (ℕ × (ℕ → A))) → xs ≡ fills xs ts 0
fills_none xs ts = runs_none xs (singles ts) ∙ sym (fills_are xs ts 0)

module _ {A : Type 0} (n i : ℕ) (xs : List A) (ts : List (ℕ × (ℕ → A))) (lo : ℕ) (apart : Spaced ts n lo (length xs)) where
  pub length_fills : i ≤ n → length (fills xs ts i) ≡ length xs
  length_fills few = ap length (fills_are xs ts i) ∙ length_runs 1 n i few xs (singles ts) lo (spaced_apart ts n lo (length xs) apart)

  pub take_fills : i ≤ n → (k : ℕ) → k ≤ lo → take k (fills xs ts i) ≡ take k xs
  take_fills few k h = ap (take k) (fills_are xs ts i) ∙ take_runs 1 n i few xs (singles ts) lo k (spaced_apart ts n lo (length xs) apart) h

  pub fills_more : i < n → stores (fills xs ts i) ts i ≡ fills xs ts (i + 1)
  fills_more few =
      let e = length_fills (omega arith) in
      stores_are n i few (fills xs ts i) ts lo (rw e apart)
      ∙ ap (λ (z : List A). pieces z (singles ts) 1 i) (fills_are xs ts i)
      ∙ runs_more 1 n i few xs (singles ts) lo (spaced_apart ts n lo (length xs) apart)
      ∙ sym (fills_are xs ts (i + 1))

-- the runs from their place m on
abbrev pub further : {A : Type 0} → ℕ → List (ℕ × (ℕ → A)) → List (ℕ × (ℕ → A))
further m [] = []
further m (t ∷ ts) = (t.0 + m, λ i. t.1 (m + i)) ∷ further m ts

-- what is put before every run may as well have been put first
under_fills : {A : Type 0} (n i : ℕ) → i ≤ n → (xs : List A) (ts : List (ℕ × (ℕ → A))) (lo b : ℕ) (l : List A) → Spaced ts n lo (length xs) → b + length l ≤ lo → put (fills xs ts i) b l ≡ fills (put xs b l) ts i
under_fills {A} n i few xs ts lo b l h p =
    ap (λ (z : List A). put z b l) (fills_are xs ts i) ∙ under_runs 1 n i few xs (singles ts) lo b l (spaced_apart ts n lo (length xs) h) p ∙ sym (fills_are (put xs b l) ts i)

-- THE LAW: m places of each run, then k more
pub fills_join : {A : Type 0} (n m k : ℕ) → m + k ≤ n → (xs : List A) (ts : List (ℕ × (ℕ → A))) (lo : ℕ) → Spaced ts n lo (length xs) → fills (fills xs ts m) (further m ts) k ≡ fills xs ts (m + k)
fills_join n m k few xs [] lo h = refl
fills_join {A} n m k few xs (t ∷ ts) lo h =
    let a = t.0 in
    let f = t.1 in
    let q = spaced_le ts n (a + n) (length xs) h.1 in
    let e = length_fill xs a f m (omega arith) in
    let e' = length_fill xs a f (m + k) (omega arith) in
    let l : length (tab k (λ i. f (m + i))) ≡ k = length_tab k (λ i. f (m + i)) in
    ap (λ (z : List A). fills z (further m ts) k) (under_fills n m (omega arith) (put xs a (tab m f)) ts (a + n) (a + m) (tab k (λ i. f (m + i))) (rw e h.1) (omega arith))
    ∙ ap (λ (z : List A). fills (fills z ts m) (further m ts) k) (fill_join xs a m k f (λ i. f (m + i)) (omega arith) (λ i p. refl))
    ∙ fills_join n m k few (put xs a (tab (m + k) f)) ts (a + n) (rw e' h.1)

-- ---- a run that is filled again, and read back
module _ {A : Type 0} (xs : List A) (a n : ℕ) (f : ℕ → A) (fits : a + n ≤ length xs) where
  pub fill_again : (g : ℕ → A) → put (put xs a (tab n f)) a (tab n g) ≡ put xs a (tab n g)
  fill_again g =
      let p : length (tab n f) ≡ n = length_tab n f in
      let q : length (tab n g) ≡ n = length_tab n g in
      put_again xs a (tab n f) (tab n g) (omega arith) (omega arith)

  -- what was filled in, read back
  pub get_d_fill : (k : ℕ) (d : A) → k < n → get_or (put xs a (tab n f)) (a + k) d ≡ f k
  get_d_fill k d h = get_d_put_in xs a (tab n f) k d (rw length_tab fits) (rw length_tab h) ∙ get_d_tab n k f d h

-- one more place of the front of a list that is filled by a rule
pub front_turn : {A : Type 0} (xs : List A) (f : ℕ → A) (i : ℕ) (v : A) → i < length xs → take i xs ≡ tab i f → v ≡ f i → take (i + 1) (set xs i v) ≡ tab (i + 1) f
front_turn xs f i v h e q = rw (tab_more, ← e, ← q, add-one, take-suc-set)
