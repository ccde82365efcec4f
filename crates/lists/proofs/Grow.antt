-- Lists that grow piece by piece; `tab`, whose pieces are single elements, and `grid`, whose pieces are rows. Assumes nothing.
use Prim.Native.Nat.{ℕ, zero, suc, ◌+◌, ◌-◌, ◌*◌, ◌/◌, ◌%◌, ◌<◌}
use mathlib.Core.Path.{◌≡◌, refl, sym, ap, ◌∙◌}
use mathlib.Core.List.{List, [], ◌∷◌, ◌++◌, append_assoc, append-nil}
use native.Mathlib.Nat.{add-zero, add-suc, zero-mul, mul-one, mul_comm, mod-lt, div-lt_iff_lt-mul}
use native.Mathlib.Numerals.{add-one}
use native.Mathlib.Omega.{arith}
use lib.Arith.{digits_lt, digits_div, digits_mod}
use lib.ListN.{length, get_or, length-append, get_or-append, replicate, replicate-append-replicate}
use lib.Seq.{get_or_at}
use Rattle.lists.specs.Lists.{grow, tab, grid}

-- ---- pieces
pub grow_zero : {A : Type 0} (p : ℕ → List A) → grow p 0 ≡ []
unfolding grow
grow_zero p = refl

pub grow_more : {A : Type 0} (p : ℕ → List A) (n : ℕ) → grow p (n + 1) ≡ grow p n ++ p n
unfolding grow
grow_more p n = rw add-one

-- pieces of s elements each
pub length_grow : {A : Type 0} (p : ℕ → List A) (s : ℕ) → ((i : ℕ) → length (p i) ≡ s) → (n : ℕ) → length (grow p n) ≡ n * s
unfolding grow
length_grow p s e zero = omega arith
length_grow p s e (suc n) = simp (length-append, length_grow p s e n, e n) (omega arith)

pub grow_ext : {A : Type 0} (p q : ℕ → List A) (n : ℕ) → ((i : ℕ) → i < n → p i ≡ q i) → grow p n ≡ grow q n
unfolding grow
grow_ext p q zero e = refl
grow_ext p q (suc n) e = rw (grow_ext p q n (λ i h. e i (omega arith)), e n (omega arith))

pub grow_add : {A : Type 0} (p : ℕ → List A) (m n : ℕ) → grow p (m + n) ≡ grow p m ++ grow (λ k. p (m + k)) n
unfolding grow
grow_add p m zero = rw (add-zero, append-nil)
grow_add p m (suc n) = rw (add-suc, grow_add p m n) (simp append_assoc)

-- ---- single elements
pub tab_is : {A : Type 0} (n : ℕ) (f : ℕ → A) → tab n f ≡ grow (λ i. f i ∷ []) n
unfolding tab
tab_is n f = refl

pub tab_zero : {A : Type 0} (f : ℕ → A) → tab 0 f ≡ []
tab_zero f = tab_is 0 f ∙ grow_zero (λ i. f i ∷ [])

pub tab_more : {A : Type 0} (n : ℕ) (f : ℕ → A) → tab (n + 1) f ≡ tab n f ++ (f n ∷ [])
unfolding tab
tab_more n f = grow_more (λ i. f i ∷ []) n

pub length_tab : {A : Type 0} (n : ℕ) (f : ℕ → A) → length (tab n f) ≡ n
unfolding tab
length_tab n f = length_grow (λ i. f i ∷ []) 1 (λ i. refl) n ∙ mul-one n

pub tab_ext : {A : Type 0} (n : ℕ) (f g : ℕ → A) → ((i : ℕ) → i < n → f i ≡ g i) → tab n f ≡ tab n g
unfolding tab
tab_ext {A} n f g e = grow_ext (λ i. f i ∷ []) (λ i. g i ∷ []) n (λ i h. ap (λ (x : A). x ∷ []) (e i h))

pub tab_add : {A : Type 0} (m n : ℕ) (f : ℕ → A) → tab (m + n) f ≡ tab m f ++ tab n (λ k. f (m + k))
unfolding tab
tab_add m n f = grow_add (λ i. f i ∷ []) m n

pub get_d_tab : {A : Type 0} (n i : ℕ) (f : ℕ → A) (d : A) → i < n → get_or (tab n f) i d ≡ f i
get_d_tab n i f d h =
    let q : n ≡ i + 1 + (n - (i + 1)) = omega arith in
    rw (q, tab_add, get_or-append (tab (i + 1) f) _ d i (rw length_tab (omega arith)), tab_more, get_or_at (tab i f) (f i) [] d i (length_tab i f))

pub tab_const : {A : Type 0} (n : ℕ) (v : A) → tab n (λ _. v) ≡ replicate n v
tab_const zero v = tab_zero (λ _. v)
tab_const (suc n) v =
    ap (λ (k : ℕ). tab k (λ _. v)) (sym (add-one n)) ∙ tab_more n (λ _. v) ∙ rw (tab_const n v) (replicate-append-replicate n 1 v ∙ ap (λ (k : ℕ). replicate k v) (add-one n))

-- ---- rows
pub grid_is : {A : Type 0} (w h : ℕ) (g : ℕ → ℕ → A) → grid w h g ≡ grow (λ y. tab w (λ x. g x y)) h
unfolding grid
grid_is w h g = refl

pub length_grid : {A : Type 0} (w h : ℕ) (g : ℕ → ℕ → A) → length (grid w h g) ≡ h * w
unfolding grid
length_grid w h g = length_grow (λ y. tab w (λ x. g x y)) w (λ y. length_tab w (λ x. g x y)) h

pub grid_ext : {A : Type 0} (w h : ℕ) (f g : ℕ → ℕ → A) → ((x y : ℕ) → x < w → y < h → f x y ≡ g x y) → grid w h f ≡ grid w h g
unfolding grid
grid_ext w h f g e = grow_ext (λ y. tab w (λ x. f x y)) (λ y. tab w (λ x. g x y)) h (λ y q. tab_ext w (λ x. f x y) (λ x. g x y) (λ x p. e x y p q))

-- by the place in the list: column i % w of row i / w
pub grid_tab : {A : Type 0} (w h : ℕ) (g : ℕ → ℕ → A) → grid w h g ≡ tab (h * w) (λ i. g (i % w) (i / w))
grid_tab w zero g = grid_is w 0 g ∙ grow_zero _ ∙ sym (ap (λ (k : ℕ). tab k (λ i. g (i % w) (i / w))) (zero-mul w) ∙ tab_zero _)
grid_tab {A} w (suc h) g =
    let f : ℕ → A = λ i. g (i % w) (i / w) in
    let q : h * w + w ≡ suc h * w = omega arith in
    grid_is w (suc h) g
    ∙ ap (grow (λ y. tab w (λ x. g x y))) (sym (add-one h))
    ∙ grow_more (λ y. tab w (λ x. g x y)) h
    ∙ ap (λ (z : List A). z ++ tab w (λ x. g x h)) (sym (grid_is w h g) ∙ grid_tab w h g)
    ∙ ap (λ (z : List A). tab (h * w) f ++ z) (tab_ext w (λ x. g x h) (λ k. f (h * w + k)) (λ i p. rw (digits_mod h p, digits_div h p)))
    ∙ sym (tab_add (h * w) w f)
    ∙ ap (λ (k : ℕ). tab k f) q

pub get_d_grid : {A : Type 0} (w h x y : ℕ) (g : ℕ → ℕ → A) (d : A) → x < w → y < h → get_or (grid w h g) (y * w + x) d ≡ g x y
get_d_grid w h x y g d p q = rw (grid_tab, get_d_tab (h * w) (y * w + x) (λ i. g (i % w) (i / w)) d (digits_lt q p), digits_mod y p, digits_div y p)

-- what holds of every entry of a grid holds at each place of it
some_wide : (w h i : ℕ) → i < w * h → 0 < w
some_wide zero h i lt = absurd (omega arith)
some_wide (suc w) h i lt = omega arith

pub grid_all : {A : Type 0} (P : A → Type 0) (w h : ℕ) (g : ℕ → ℕ → A) (d : A) → ((x y : ℕ) → x < w → y < h → P (g x y)) → (i : ℕ) → i < w * h → P (get_or (grid w h g) i d)
grid_all P w h g d all i lt =
    let few : i < h * w = rw (mul_comm h w) lt in
    rw (grid_tab, get_d_tab (h * w) i (λ i. g (i % w) (i / w)) d few) (all (i % w) (i / w) (mod-lt i (some_wide w h i lt)) ((div-lt_iff_lt-mul (some_wide w h i lt)).1 few))
