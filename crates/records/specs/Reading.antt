-- The records of document 01: a 4-byte length of the rest, a 2-byte kind, a body, little-endian. What stands at the start of a list of bytes, which
-- may end before the record does. Definitions only.
use Rattle.std.specs.Prelude.{ℕ, ◌+◌, ◌-◌, ◌*◌, List, ltb, eqb, length, get_or, None, Some, Option}
use Rattle.std.specs.Float.{binary32}
use Rattle.std.specs.Float.Ieee.{of_bits}
use Rattle.lists.specs.Marked.{pick}
use Rattle.settings.specs.declared.EccConfig.{EccConfig}
use Rattle.records.specs.declared.Record.{Record}
use Rattle.records.specs.declared.Record.TheVariants.{More, Settings, Frame, Large, Other, Broken}

-- a u16, and a u32, low byte first
unfoldable pub half_at : List ℕ → ℕ → ℕ
half_at s i = get_or s i 0 + 256 * get_or s (i + 1) 0

unfoldable pub word_at : List ℕ → ℕ → ℕ
word_at s i = half_at s i + 65536 * half_at s (i + 2)

-- edge: 0 for none
unfoldable pub choice_of : ℕ → Option ℕ
choice_of n = pick (eqb n 0) None (Some n)

-- eps bits u32, max_iter u32, filter u16, edge u32
unfoldable pub config_at : List ℕ → EccConfig
config_at s = record { eps = of_bits binary32 (word_at s 6); max_iter = word_at s 10; gauss_filt_size = half_at s 14; resize_long_edge = choice_of (word_at s 16) }

-- kind 1, with a body of n bytes: broken unless it is 14
unfoldable pub settings_of : List ℕ → ℕ → Record
settings_of s n = pick (eqb n 14) (pick (ltb (length s) 20) More (Settings (config_at s))) Broken

-- kind 2, w u16, h u16, pixels, with a body of n bytes: broken where it is under 4; above 1,028 it is read over, and its sides are not looked at
unfoldable pub frame_of : List ℕ → ℕ → Record
frame_of s n = pick (ltb n 4) Broken (pick (ltb 1028 n) (Large n) (pick (ltb (length s) (6 + n)) More (Frame (half_at s 6) (half_at s 8) (n - 4))))

-- the kinds; others are passed over
unfoldable pub body_of : List ℕ → ℕ → ℕ → Record
body_of s kind n = pick (eqb kind 1) (settings_of s n) (pick (eqb kind 2) (frame_of s n) (Other n))

-- a length under 2 is broken
unfoldable pub next_of : List ℕ → Record
next_of s =
    pick (ltb (length s) 4) More
    (pick (ltb (word_at s 0) 2) Broken
    (pick (ltb (length s) 6) More (body_of s (half_at s 4) (word_at s 0 - 2))))
