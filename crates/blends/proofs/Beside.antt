-- Three images filled side by side from some pixel on: none, one more, some more behind them; and the sources stay. Assumes nothing.
use mathlib.Core.Path.{◌≡◌, sym}
use mathlib.Core.List.{List, [], ◌∷◌}
use Prim.Native.Nat.{ℕ, suc, ◌+◌, ◌*◌, ◌≤◌, ◌<◌}
use native.Mathlib.Nat.{mul-le-mul_right, add_assoc}
use native.Mathlib.Omega.{arith}
use lib.ListN.{length, set}
use lib.Ieee.{Float}
use Rattle.lists.specs.Lists.{tab, image}
use Rattle.lists.proofs.Fill.{Spaced, fills_none, fills_more, fills_join, length_fills, take_fills}
use Rattle.lists.proofs.Grow.{tab_ext}
use Rattle.lists.proofs.Images.{image_agree}
use Rattle.blends.specs.Reads.{three_rows}

module _ (n at : ℕ) (f : ℕ → ℕ → Float) (xs : List Float) where
  abbrev targets : List (ℕ × (ℕ → Float))
  targets = (3 * n + at, f 0) ∷ (4 * n + at, f 1) ∷ (5 * n + at, f 2) ∷ []

  pub three_none : xs ≡ three_rows n at 0 f xs
  three_none = fills_none xs targets

  module _ (m : ℕ) (fits : at + m ≤ n) (room : 6 * n ≤ length xs) where
    apart : Spaced targets m (3 * n) (length xs)
    apart = omega arith

    pub three_length : length (three_rows n at m f xs) ≡ length xs
    three_length = length_fills m m xs targets (3 * n) apart (omega arith)

    -- the images 0 to 2 stay
    pub three_sources : (k : ℕ) → k < 3 → image n k (three_rows n at m f xs) ≡ image n k xs
    three_sources k h = image_agree n k (3 * n) _ xs (omega (arith, mul-le-mul_right {m = suc k} {n = 3} n h)) (take_fills m m xs targets (3 * n) apart (omega arith) (3 * n) (omega arith))

  -- one more pixel
  pub three_more : (m : ℕ) → at + m < n → 6 * n ≤ length xs → set (set (set (three_rows n at m f xs) (3 * n + at + m) (f 0 m)) (4 * n + at + m) (f 1 m)) (5 * n + at + m) (f 2 m) ≡ three_rows n at (m + 1) f xs
  three_more m fits room = fills_more (m + 1) m xs targets (3 * n) (apart (m + 1) (omega arith) room) (omega arith)

  -- k more pixels behind the first m, by a rule that agrees there
  pub three_join : (m k : ℕ) (g : ℕ → ℕ → Float) → at + m + k ≤ n → 6 * n ≤ length xs → ((j x : ℕ) → j < 3 → x < k → g j x ≡ f j (m + x)) →
      three_rows n (at + m) k g (three_rows n at m f xs) ≡ three_rows n at (m + k) f xs
  three_join m k g fits room same =
      let row : (j : ℕ) → j < 3 → tab k (g j) ≡ tab k (λ x. f j (m + x)) = λ j h. tab_ext k (g j) (λ x. f j (m + x)) (λ x l. same j x h l) in
      rw (row 0 (omega arith), row 1 (omega arith), row 2 (omega arith), sym (add_assoc (3 * n) at m), sym (add_assoc (4 * n) at m), sym (add_assoc (5 * n) at m))
      (fills_join (m + k) m k (omega arith) xs targets (3 * n) (apart (m + k) (omega arith) room))

-- the same rows by another rule
pub three_ext : (n at m : ℕ) (f g : ℕ → ℕ → Float) (xs : List Float) → ((j x : ℕ) → j < 3 → x < m → f j x ≡ g j x) → three_rows n at m f xs ≡ three_rows n at m g xs
three_ext n at m f g xs same =
    let row : (j : ℕ) → j < 3 → tab m (f j) ≡ tab m (g j) = λ j h. tab_ext m (f j) (g j) (λ x l. same j x h l) in
    rw (row 0 (omega arith), row 1 (omega arith), row 2 (omega arith))
