-- The next stretch of marked pixels. Definitions only.
use Rattle.std.specs.Prelude.{ℕ, ◌-◌, ◌≤◌, ◌<◌, ◌≡◌, List}
use Rattle.bits.specs.Words.{bit_at}
use Rattle.bits.specs.declared.Stretch.{Stretch}

-- r is the first pixel from i on, before e, whose bit is not b, or e where there is none
pub record FirstOther (ws : List ℕ) (b i e r : ℕ) : Type 0 where
  pub low : i ≤ r
  pub high : r ≤ e
  pub same : (k : ℕ) → i ≤ k → k < r → bit_at ws k ≡ b
  pub other : r < e → bit_at ws r ≡ 1 - b

-- from i on, before e: the pixels up to `from` are not marked, those up to `to` are, and there are some unless the end is reached
pub record StretchOf (ws : List ℕ) (i e : ℕ) (r : Stretch) : Type 0 where
  pub low : i ≤ r.from
  pub order : r.from ≤ r.to
  pub high : r.to ≤ e
  pub bare : (k : ℕ) → i ≤ k → k < r.from → bit_at ws k ≡ 0
  pub full : (k : ℕ) → r.from ≤ k → k < r.to → bit_at ws k ≡ 1
  pub some : r.from < e → r.from < r.to
