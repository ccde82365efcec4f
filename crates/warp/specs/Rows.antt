-- What the warp's inner functions say of some pixels that follow each other: what is read at their places, and how far the warp has got. Definitions only.
use Rattle.std.specs.Prelude.{ℕ, ◌+◌, ◌*◌, ◌/◌, ◌%◌, ◌<◌, true, ◌≡◌, List, get_or, Float}
use Rattle.lists.specs.Lists.{put, image}
use Rattle.lists.specs.Marked.{pick}
use Rattle.marks.specs.Marks.{on}
use Rattle.bits.specs.Packing.{words_to}
use Rattle.floats.specs.F32.{0f}
use Rattle.pose.specs.declared.Map.{Map}
use Rattle.places.specs.Point.{marks_of}
use Rattle.blends.specs.Reads.{three_rows, placed_of}
use Rattle.warp.specs.Warp.{pixel_of}

-- what is read for the pixel at + x of the image: 0 where it is not marked
unfoldable pub read_of : ℕ → ℕ → ℕ → List ℕ → List ℕ → List Float → List Float → List Float → ℕ → ℕ → Float
read_of n w at ms spots across down xs k x = pick (on ms (at + x)) (placed_of n w spots across down xs k x) 0f

-- the four pixels of each marked one of the len pixels from `at` on lie within the image of n
pub record Reach (n w at len : ℕ) (ms spots : List ℕ) : Type 0 where
  pub reach : (x : ℕ) → x < len → on ms (at + x) ≡ true → get_or spots x 0 + w + 1 < n

-- the pixel i of a warped image
unfoldable pub warped_at : List Float → Map → ℕ → ℕ → ℕ → Float
warped_at src map w h i = pixel_of src map w h (i % w) (i / w)

-- of the words that the marks need, the first p marks are there and no other bit
abbrev pub Holding : Map → ℕ → ℕ → ℕ → List ℕ → Type 0
Holding map w h p ws = ws ≡ put ws 0 (words_to (marks_of map w h) (w * h) p)

-- the warp has gone on from the pixel p through k pixels: they stand in the three images, their marks in the words, and nothing else has changed
pub record WarpedThrough (map : Map) (w h p k : ℕ) (xs : List Float) (ws : List ℕ) (xs' : List Float) (ws' : List ℕ) : Type 0 where
  pub images : let n = w * h in xs' ≡ three_rows n p k (λ j x. warped_at (image n j xs) map w h (p + x)) xs
  pub marked : ws' ≡ put ws 0 (words_to (marks_of map w h) (w * h) (p + k))
