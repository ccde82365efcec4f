-- Half differences, a run or a row at a time: what is read lies before what is written, so it is still what stood there at first. Assumes nothing.
use Prim.Native.Nat.{ℕ, ◌+◌, ◌*◌, ◌≤◌, ◌<◌}
use mathlib.Core.Path.{◌≡◌, sym, ap, ap₂, ◌∙◌}
use mathlib.Core.List.{List}
use native.Mathlib.Omega.{arith}
use lib.ListN.{length, get_or, set}
use lib.Seq.{get_or-take}
use lib.Ieee.{Float, nan}
use Rattle.lists.specs.Lists.{tab, grid, put, image}
use Rattle.lists.proofs.Grow.{tab_ext}
use Rattle.lists.proofs.Fill.{fill_more, fill_before, fill_join, rows_before, rows_more}
use Rattle.lists.proofs.Images.{image_zero}
use Rattle.floats.specs.F32.{◌⊖◌, ◌⊗◌, half}

-- half of what stands at r less what stands at l
abbrev pub half_of : List Float → ℕ → ℕ → Float
half_of xs r l = half ⊗ (get_or xs r nan ⊖ get_or xs l nan)

-- m of them, at the places from r and l on
abbrev pub run_of : List Float → ℕ → ℕ → ℕ → List Float
run_of xs r l m = tab m (λ k. half_of xs (r + k) (l + k))

half_agree : (xs ys : List Float) (r l r' l' : ℕ) → get_or xs r nan ≡ get_or ys r' nan → get_or xs l nan ≡ get_or ys l' nan → half_of xs r l ≡ half_of ys r' l'
half_agree xs ys r l r' l' p q = ap₂ (λ (a b : Float). half ⊗ (a ⊖ b)) p q

-- one more of a run of m from `to` on
pub run_more : (xs : List Float) (to r l m k : ℕ) → (r + m ≤ to) × (l + m ≤ to) × (to + m ≤ length xs) × (k < m) →
    (p : List Float) → p ≡ put xs to (run_of xs r l k) → set p (to + k) (half_of p (r + k) (l + k)) ≡ put xs to (run_of xs r l (k + 1))
run_more xs to r l m k fits p e =
    let f : ℕ → Float = λ j. half_of xs (r + j) (l + j) in
    let read : (i : ℕ) → i < to → get_or p i nan ≡ get_or xs i nan = λ i h. ap (λ (z : List Float). get_or z i nan) e ∙ fill_before xs to f k (omega arith) i nan h in
    let v = half_of p (r + k) (l + k) in
    ap (λ (z : List Float). set z (to + k) v) e
    ∙ fill_more xs to f k v (omega arith) (half_agree p xs (r + k) (l + k) (r + k) (l + k) (read (r + k) (omega arith)) (read (l + k) (omega arith)))

-- a row from `to` on, whose number x is taken at the places rs x and ls x: its first i numbers, and then a run of m, are its first i + m
pub run_on : (xs : List Float) (to : ℕ) (rs ls : ℕ → ℕ) (i m j at r l : ℕ) →
    (at ≡ to + i) × (j ≡ i + m) × (to + j ≤ length xs) × (r + m ≤ to) × (l + m ≤ to) × ((k : ℕ) → k < m → (r + k ≡ rs (i + k)) × (l + k ≡ ls (i + k))) →
    let f : ℕ → Float = λ x. half_of xs (rs x) (ls x) in
    (p q : List Float) → p ≡ put xs to (tab i f) → q ≡ put p at (run_of p r l m) → q ≡ put xs to (tab j f)
run_on xs to rs ls i m j at r l fits p q e g =
    let f : ℕ → Float = λ x. half_of xs (rs x) (ls x) in
    let read : (a b : ℕ) → a < to → a ≡ b → get_or p a nan ≡ get_or xs b nan =
    λ a b h s. ap (λ (z : List Float). get_or z a nan) e ∙ fill_before xs to f i (omega arith) a nan h ∙ ap (λ (k : ℕ). get_or xs k nan) s in
    g
    ∙ ap (λ (k : ℕ). put p k (run_of p r l m)) fits.0
    ∙ ap (λ (z : List Float). put z (to + i) (run_of p r l m)) e
    ∙ fill_join xs to i m f (λ k. half_of p (r + k) (l + k)) (omega arith)
    (λ k h. half_agree p xs (r + k) (l + k) (rs (i + k)) (ls (i + k)) (read (r + k) (rs (i + k)) (omega arith) (fits.5 k h).0) (read (l + k) (ls (i + k)) (omega arith) (fits.5 k h).1))
    ∙ ap (λ (k : ℕ). put xs to (tab k f)) (sym fits.1)

-- an image from `to` on, whose number in column x of row y is taken at the places rs x y and ls x y of the first image: its first y rows, and then the next
pub row_more : (xs : List Float) (to n w y : ℕ) (rs ls : ℕ → ℕ → ℕ) → (n ≤ to) × (to + y * w + w ≤ length xs) × ((x : ℕ) → x < w → (rs x y < n) × (ls x y < n)) →
    let g : ℕ → ℕ → Float = λ x y. half_of (image n 0 xs) (rs x y) (ls x y) in
    (p q : List Float) → p ≡ put xs to (grid w y g) → q ≡ put p (to + y * w) (tab w (λ x. half_of p (rs x y) (ls x y))) → q ≡ put xs to (grid w (y + 1) g)
row_more xs to n w y rs ls fits p q e s =
    let g : ℕ → ℕ → Float = λ x y. half_of (image n 0 xs) (rs x y) (ls x y) in
    let read : (i : ℕ) → i < n → get_or p i nan ≡ get_or (image n 0 xs) i nan =
    λ i h. ap (λ (z : List Float). get_or z i nan) e ∙ rows_before xs to w g y (omega arith) i nan (omega arith) ∙ sym (ap (λ (z : List Float). get_or z i nan) (image_zero n xs) ∙ get_or-take n xs i nan h) in
    s
    ∙ ap (put p (to + y * w))
    (tab_ext w (λ x. half_of p (rs x y) (ls x y)) (λ x. g x y) (λ x h. half_agree p (image n 0 xs) (rs x y) (ls x y) (rs x y) (ls x y) (read (rs x y) (fits.2 x h).0) (read (ls x y) (fits.2 x h).1)))
    ∙ ap (λ (z : List Float). put z (to + y * w) (tab w (λ x. g x y))) e
    ∙ rows_more xs to w g y (omega arith)
