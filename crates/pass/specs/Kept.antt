-- What a pass leaves as it was: the four images that passes read, and all past the twelve images and past the words of the n marks; and what its centring changes. Definitions only.
use Rattle.std.specs.Prelude.{ℕ, ◌*◌, ◌≡◌, List, length, drop, Float}
use Rattle.lists.specs.Lists.{image, set_image}
use Rattle.lists.specs.Marked.{words_for}
use Rattle.stats.specs.Stats.{AgreeAt, centred_of, centered_stats}
use Rattle.stats.specs.declared.Stats.{Stats}

pub record Kept (n : ℕ) (xs xs' : List Float) : Type 0 where
  pub input : image n 2 xs' ≡ image n 2 xs
  pub gx : image n 3 xs' ≡ image n 3 xs
  pub gy : image n 4 xs' ≡ image n 4 xs
  pub template : image n 8 xs' ≡ image n 8 xs
  pub rest : drop (12 * n) xs' ≡ drop (12 * n) xs
  pub size : length xs' ≡ length xs

pub record KeptMarks (n : ℕ) (ms ms' : List ℕ) : Type 0 where
  pub rest : drop (words_for n) ms' ≡ drop (words_for n) ms
  pub size : length ms' ≡ length ms

-- the work after the centring: nothing but the images 9 and 10 has changed, and where a pixel is marked they hold the centred template and image; and the statistics
pub record CentredWork (marks : List ℕ) (n : ℕ) (xs xs' : List Float) (r : Stats) : Type 0 where
  pub rest : xs' ≡ set_image n 10 (image n 10 xs') (set_image n 9 (image n 9 xs') xs)
  pub template : AgreeAt marks n (image n 9 xs') (centred_of marks n (image n 8 xs))
  pub warped : AgreeAt marks n (image n 10 xs') (centred_of marks n (image n 5 xs))
  pub answer : r ≡ centered_stats marks n (image n 8 xs) (image n 5 xs)
