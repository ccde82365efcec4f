-- What the inner functions say of four numbers side by side in a list, and of the sixteen sums that stand from some place q on. Definitions only.
use Rattle.std.specs.Prelude.{ℕ, ◌+◌, ◌*◌, ◌≤◌, ◌<◌, ◌≡◌, List, get_or, Float}
use Rattle.std.specs.Float.{nan}
use Rattle.lists.specs.Marked.{over_range}
use Rattle.floats.specs.F32.{◌⊕◌, ◌⊗◌}
use Rattle.sums.specs.declared.Four.{Four}

-- the four numbers of a list from i on
abbrev pub four_in : List Float → ℕ → Four
four_in m i = (get_or m i nan, get_or m (i + 1) nan, get_or m (i + 2) nan, get_or m (i + 3) nan)

-- s + v * k
abbrev pub four_more : Four → Four → Float → Four
four_more s v k = (s.0 ⊕ v.0 ⊗ k, s.1 ⊕ v.1 ⊗ k, s.2 ⊕ v.2 ⊗ k, s.3 ⊕ v.3 ⊗ k)

-- j0, j1, j2 and image_zm of the pixel i
abbrev pub quad_at : List Float → ℕ → ℕ → Four
quad_at part n i = (get_or part (5 * n + i) nan, get_or part i nan, get_or part (n + i) nan, get_or part (4 * n + i) nan)

-- the four numbers from i on are v, and the others stay
pub record FourPut (i : ℕ) (v : Four) (m m' : List Float) : Type 0 where
  pub here : four_in m' i ≡ v
  pub below : (k : ℕ) → k < i → get_or m' k nan ≡ get_or m k nan
  pub above : (k : ℕ) → i + 4 ≤ k → get_or m' k nan ≡ get_or m k nan

-- `len` pixels are laid out, from `at` on, and what stands behind them stays
pub record Spread (part : List Float) (n at len : ℕ) (m m' : List Float) : Type 0 where
  pub quads : (k : ℕ) → k < len → four_in m' (4 * k) ≡ quad_at part n (at + k)
  pub behind : (k : ℕ) → 4 * len ≤ k → get_or m' k nan ≡ get_or m k nan

-- the products of `len` pixels from `at` on, with the numbers from f on, added to four sums
unfoldable pub fours_of : List Float → ℕ → ℕ → Four → ℕ → ℕ → Four
fours_of part n f s at len = over_range (λ s i. four_more s (quad_at part n i) (get_or part (f + i) nan)) s at len

-- the sixteen sums from q on, with those of `len` pixels from `at` on: with j0, with j1, with j2 and with template_zm
pub record SumsMore (part : List Float) (n q at len : ℕ) (m m' : List Float) : Type 0 where
  pub with_j0 : four_in m' q ≡ fours_of part n (5 * n) (four_in m q) at len
  pub with_j1 : four_in m' (q + 4) ≡ fours_of part n 0 (four_in m (q + 4)) at len
  pub with_j2 : four_in m' (q + 8) ≡ fours_of part n n (four_in m (q + 8)) at len
  pub with_t : four_in m' (q + 12) ≡ fours_of part n (3 * n) (four_in m (q + 12)) at len
