-- Document 000's means_over_mask and centered_stats_in_place. Every sum is one fold over the pixels in row order that passes unmarked ones by. Definitions only.
use Rattle.std.specs.Prelude.{ℕ, ◌<◌, ◌≡◌, true, List, get_or, Float}
use Rattle.std.specs.Float.{nan}
use Rattle.lists.specs.Lists.{tab, image, set_image}
use Rattle.lists.specs.Marked.{pick}
use Rattle.marks.specs.Marks.{on, count_on}
use Rattle.floats.specs.F32.{◌⊖◌, ◌⊗◌, ◌⊘◌, f32, 0f}
use Rattle.floats.specs.Sums.{sum_over}
use Rattle.root.specs.Root.{sqrt_of}
use Rattle.stats.specs.declared.Stats.{Stats}

-- the mean over the marked pixels: sa / n, n the marked count
unfoldable pub mean_of : List ℕ → ℕ → List Float → Float
mean_of marks n xs = sum_over (on marks) (λ i. get_or xs i nan) n ⊘ f32 (count_on marks n)

-- template_zm or image_zm: the pixel less the mean, 0 where it is not marked
unfoldable pub centred_of : List ℕ → ℕ → List Float → List Float
centred_of marks n xs = let mean = mean_of marks n xs in tab n (λ i. pick (on marks i) (get_or xs i nan ⊖ mean) 0f)

-- the sum of products: t_ss, i_ss and corr
unfoldable pub product_of : List ℕ → ℕ → List Float → List Float → Float
product_of marks n xs ys = sum_over (on marks) (λ i. get_or xs i nan ⊗ get_or ys i nan) n

-- (t_ss.sqrt(), i_ss.sqrt(), corr) of the centred images
unfoldable pub stats_of : List ℕ → ℕ → List Float → List Float → Stats
stats_of marks n template_zm image_zm = record {
  tmp_norm = sqrt_of (product_of marks n template_zm template_zm);
  img_norm = sqrt_of (product_of marks n image_zm image_zm);
  corr = product_of marks n template_zm image_zm;
}

-- the statistics of a template and a warped image, which are centred first
abbrev pub centered_stats : List ℕ → ℕ → List Float → List Float → Stats
centered_stats marks n template warped = stats_of marks n (centred_of marks n template) (centred_of marks n warped)

-- two images hold the same number at each marked pixel
abbrev pub AgreeAt : List ℕ → ℕ → List Float → List Float → Type 0
AgreeAt marks n xs ys = (i : ℕ) → i < n → on marks i ≡ true → get_or xs i nan ≡ get_or ys i nan

-- the part afterwards, and the answer: nothing but the images 4 and 5 has changed, and where a pixel is marked they hold the centred template and image
pub record Centred (marks : List ℕ) (n : ℕ) (xs xs' : List Float) (r : Stats) : Type 0 where
  pub rest : xs' ≡ set_image n 5 (image n 5 xs') (set_image n 4 (image n 4 xs') xs)
  pub template : AgreeAt marks n (image n 4 xs') (centred_of marks n (image n 3 xs))
  pub warped : AgreeAt marks n (image n 5 xs') (centred_of marks n (image n 0 xs))
  pub answer : r ≡ centered_stats marks n (image n 3 xs) (image n 0 xs)
