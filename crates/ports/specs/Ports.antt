-- What the two calls of the system leave behind. Definitions only.
use Rattle.std.specs.Prelude.{ℕ, ◌+◌, ◌≤◌, ◌≡◌, List, [], length, take, drop}
use Rattle.ports.specs.Seal.{by_flush}
pub use Rattle.ports.specs.Seal.{Handed, Came}

-- nothing has always been handed over
pub nothing_handed : Handed []
nothing_handed = by_flush []

-- a read behind the first n bytes of old: they stay, and the k bytes after them are what came
pub record Fetched (old : List ℕ) (n : ℕ) (new : List ℕ) (k : ℕ) : Type 0 where
  pub size : length new ≡ length old
  pub fits : n + k ≤ length old
  pub front : take n new ≡ take n old
  pub came : Came (take k (drop n new))
