-- The settings record: document 000's EccConfig. Definitions only.
use Rattle.std.specs.Prelude.{ℕ, None, Some, Option}
use Rattle.std.specs.Float.{binary32}
use Rattle.std.specs.Float.Ieee.{of_bits}
use Rattle.settings.specs.declared.EccConfig.{EccConfig}

-- eps 1e-4, 100 passes, filter 1, edge 350
abbrev pub defaults_of : EccConfig
defaults_of = record { eps = of_bits binary32 0x38d1_b717; max_iter = 100; gauss_filt_size = 1; resize_long_edge = Some 350 }

-- the edge length, 0 for none
abbrev pub length_of : Option ℕ → ℕ
length_of None = 0
length_of (Some n) = n

abbrev pub edge_of : EccConfig → ℕ
edge_of s = length_of s.resize_long_edge
