-- Whenever rho is worked out it is finite, so number 7 is not given: by the size of the images alone. Statements.
use Rattle.std.specs.Prelude.{ℕ, ◌+◌, ◌^◌, ◌≤◌, ◌≡◌, true, false, List, [], ◌∷◌, Float, Err}
use Rattle.std.specs.Float.{binary32}
use Rattle.std.specs.Float.Ieee.{neg, le, of_bits}
use Rattle.std.specs.Float.Ieee.Scale.{finite}
use Rattle.floats.specs.Bound.{Bounded}
use Rattle.stats.specs.Stats.{centered_stats}
use Rattle.stats.specs.declared.Stats.{Stats}
use Rattle.verdict.specs.Verdict.{tiny, rho_of, verdict_of}
use Rattle.refusals.specs.declared.Refusal.TheVariants.{RhoNotFinite}

-- rho of these statistics is finite whenever it is worked out, that is where no norm is at most 1e-6; so no verdict on them is 7
pub record RhoFinite (s : Stats) : Type 0 where
  pub rho : le s.tmp_norm tiny ≡ false → le s.img_norm tiny ≡ false → finite (rho_of s) ≡ true
  pub never_seven : (last eps : Float) → verdict_of s last eps ≡ Err RhoNotFinite → ⊥

-- THE STATEMENT: over any marks of up to 2^24 pixels, any template within ±2^a and any warped image within ±2^b, where a and b are at most 50, and 61 together. Of a prepared
-- frame a is 22, and of its warped image b is 26
abbrev pub RhoIsFinite : Type 0
RhoIsFinite =
    (marks : List ℕ) (n a b : ℕ) (template warped : List Float) → n ≤ 2 ^ 24 → a ≤ 50 → b ≤ 50 → a + b ≤ 61 → Bounded template n a → Bounded warped n b → RhoFinite (centered_stats marks n template warped)

-- A bound is needed: of two pixels of ±2^64 the squares leave the range of f32, all three sums are infinite, and rho is a NaN
abbrev pub TooLarge : Type 0
TooLarge =
    let xs = of_bits binary32 0x5f80_0000 ∷ neg (of_bits binary32 0x5f80_0000) ∷ [] in
    (last eps : Float) → Bounded xs 2 64 × (verdict_of (centered_stats (1 ∷ 1 ∷ []) 2 xs xs) last eps ≡ Err RhoNotFinite)
