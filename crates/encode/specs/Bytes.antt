-- The records of document 01 as bytes: a 4-byte length of the rest, a 2-byte kind, a body, little-endian. Definitions only.
use Rattle.std.specs.Prelude.{ℕ, ◌+◌, ◌*◌, ◌/◌, ◌%◌, List, [], ◌∷◌, ◌++◌}

-- a u16, and a u32, low byte first
unfoldable pub half_bytes : ℕ → List ℕ
half_bytes n = (n % 256) ∷ (n / 256 % 256) ∷ []

unfoldable pub word_bytes : ℕ → List ℕ
unfolding half_bytes
word_bytes n = half_bytes n ++ half_bytes (n / 65536)

-- length, kind
unfoldable pub start_bytes : ℕ → ℕ → List ℕ
unfolding word_bytes half_bytes
start_bytes size kind = word_bytes (size + 2) ++ half_bytes kind

-- kind 1, 14 bytes: eps bits u32, max_iter u32, filter u16, edge u32 (0 for none)
unfoldable pub settings_bytes : ℕ → ℕ → ℕ → ℕ → List ℕ
unfolding start_bytes word_bytes half_bytes
settings_bytes eps passes filter edge = start_bytes 14 1 ++ (word_bytes eps ++ (word_bytes passes ++ (half_bytes filter ++ word_bytes edge)))

-- kind 2, what stands before the pixels: w u16, h u16
unfoldable pub head_bytes : ℕ → ℕ → List ℕ
unfolding start_bytes half_bytes
head_bytes w h = start_bytes (4 + w * h) 2 ++ (half_bytes w ++ half_bytes h)
