-- A stored vector is a list of words below 2^64: whole numbers, bytes, and floats by their bit patterns. Definitions only.
use Rattle.std.specs.Prelude.{ℕ, zero, suc, ◌+◌, ◌%◌, ◌^◌, Bool, true, ◌&&◌, List, eqb, length, get_or, Float}
use Rattle.std.specs.Float.{nan, binary32}
use Rattle.std.specs.Float.Ieee.{of_bits, to_bits}
use Rattle.lists.specs.Lists.{tab}

-- the word i, 0 past the end
abbrev pub stored_at : List ℕ → ℕ → ℕ
stored_at words i = get_or words i 0

-- the float whose bit pattern is a word's low 32 bits
abbrev pub float_of : ℕ → Float
float_of w = of_bits binary32 (w % 2 ^ 32)

-- a float has the bit pattern that is a word's low 32 bits. The one NaN has 0x7fc00000; the two zeros differ
abbrev pub has_bits : Float → ℕ → Bool
has_bits x w = eqb (to_bits binary32 x) (w % 2 ^ 32)

-- the n words from `from` on, as bytes and as floats
unfoldable pub bytes_at : List ℕ → ℕ → ℕ → List ℕ
bytes_at words from n = tab n (λ i. stored_at words (from + i) % 256)

unfoldable pub floats_at : List ℕ → ℕ → ℕ → List Float
floats_at words from n = tab n (λ i. float_of (stored_at words (from + i)))

-- each number below n passes the test
unfoldable pub all_below : ℕ → (ℕ → Bool) → Bool
all_below zero p = true
all_below (suc n) p = p n && all_below n p

-- the floats have, one after another, the bit patterns of the words from `from` on
unfoldable pub floats_agree : List ℕ → ℕ → List Float → Bool
floats_agree words from xs = all_below (length xs) (λ i. has_bits (get_or xs i nan) (stored_at words (from + i)))

-- the bytes are, one after another, the words from `from` on
unfoldable pub bytes_agree : List ℕ → ℕ → List ℕ → Bool
bytes_agree words from bs = all_below (length bs) (λ i. eqb (get_or bs i 0) (stored_at words (from + i) % 256))
