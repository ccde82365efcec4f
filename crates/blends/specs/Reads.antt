-- What is read at given places, and where one of them does not follow the one before. Definitions only.
use Rattle.std.specs.Prelude.{ℕ, zero, suc, ◌+◌, ◌-◌, ◌*◌, ◌≤◌, ◌<◌, ◌≡◌, List, eqb, length, get_or, Float}
use Rattle.std.specs.Float.{nan}
use Rattle.lists.specs.Lists.{tab, put, image}
use Rattle.lists.specs.Marked.{pick}
use Rattle.blends.specs.declared.Three.{Three}
use Rattle.blends.specs.Blend.{four_of}

-- the four pixels whose top left one stands at i
unfoldable pub four_at : List Float → ℕ → ℕ → Float → Float → Float
four_at src w i wx wy = four_of (get_or src i nan) (get_or src (i + 1) nan) (get_or src (i + w) nan) (get_or src (i + w + 1) nan) wx wy

-- the same in each of the images 0 to 2
pub record ThreeOf (n w i : ℕ) (a b : Float) (xs : List Float) (p : Three) : Type 0 where
  pub first : p.0 ≡ four_at (image n 0 xs) w i a b
  pub second : p.1 ≡ four_at (image n 1 xs) w i a b
  pub third : p.2 ≡ four_at (image n 2 xs) w i a b

-- m numbers put into each of the images 3 to 5, from the pixel `at` on: f k x for the pixel at + x, k from 0 to 2
abbrev pub three_rows : ℕ → ℕ → ℕ → (ℕ → ℕ → Float) → List Float → List Float
three_rows n at m f xs = put (put (put xs (3 * n + at) (tab m (f 0))) (4 * n + at) (tab m (f 1))) (5 * n + at) (tab m (f 2))

-- the places and weights of some pixels are stored in three lists: what is read by those of the pixel x in image k
unfoldable pub placed_of : ℕ → ℕ → List ℕ → List Float → List Float → List Float → ℕ → ℕ → Float
placed_of n w spots across down xs k x = four_at (image n k xs) w (get_or spots x 0) (get_or across x nan) (get_or down x nan)

-- how many of the k places behind the one at `from` do not follow the one before
unfoldable pub breaks_of : List ℕ → ℕ → ℕ → ℕ
breaks_of spots from zero = 0
breaks_of spots from (suc k) = breaks_of spots from k + pick (eqb (get_or spots (from + k + 1) 0) (get_or spots (from + k) 0 + 1)) 0 1

-- the pixels from `from` to `to` of a piece that starts at the pixel `at` lie in it, and the four pixels of each lie within the image of n
abbrev pub Placed : (n w at from to : ℕ) → List ℕ → List Float → List Float → List Float → Type 0
Placed n w at from to spots across down xs =
    (from ≤ to) × (at + to ≤ n) × (6 * n ≤ length xs) × (to ≤ length spots) × (to ≤ length across) × (to ≤ length down)
    × ((x : ℕ) → from ≤ x → x < to → get_or spots x 0 + w + 1 < n)

-- these pixels are read by their places and weights into each of the images 3 to 5, and nothing else has changed
abbrev pub Taken : (n w at from to : ℕ) → List ℕ → List Float → List Float → List Float → List Float → Type 0
Taken n w at from to spots across down xs xs' = xs' ≡ three_rows n (at + from) (to - from) (λ k x. placed_of n w spots across down xs k (from + x)) xs
