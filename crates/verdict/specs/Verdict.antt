-- The tests of document 000 between the statistics of a pass and its update, in their order: 6, 7, the stop. Definitions only.
use Rattle.std.specs.Prelude.{◌≡◌, Bool, ◌&&◌, Float, Ok, Err, Result}
use Rattle.std.specs.Float.{nan, binary32}
use Rattle.std.specs.Float.Ieee.{le, lt, of_bits}
use Rattle.std.specs.Float.Ieee.Scale.{finite}
use Rattle.lists.specs.Marked.{pick}
use Rattle.floats.specs.F32.{◌⊖◌, ◌⊗◌, ◌⊘◌}
use Rattle.numbers.specs.Numbers.{abs_of}
use Rattle.stats.specs.declared.Stats.{Stats}
use Rattle.verdict.specs.declared.Verdict.{Verdict}
use Rattle.verdict.specs.declared.Verdict.TheVariants.{Settled, Unsettled}
use Rattle.refusals.specs.declared.Refusal.TheVariants.{Flat, RhoNotFinite}
use Rattle.refusals.specs.declared.Refusal.{Refusal}

-- 1e-6
abbrev pub tiny : Float
tiny = of_bits binary32 0x3586_37bd

-- last_rho.is_finite() && (rho - last_rho).abs() < eps
abbrev pub stops : Float → Float → Float → Bool
stops rho last eps = finite last && lt (abs_of (rho ⊖ last)) eps

-- rho = corr / (img_norm * tmp_norm)
abbrev pub rho_of : Stats → Float
rho_of s = s.corr ⊘ (s.img_norm ⊗ s.tmp_norm)

-- tmp_norm <= 1e-6 || img_norm <= 1e-6: 6; rho not finite: 7; else whether the passes stop
unfoldable pub verdict_of : Stats → Float → Float → Result Verdict Refusal
verdict_of s last eps =
    let rho = rho_of s in
    pick (le s.tmp_norm tiny) (Err Flat)
    (pick (le s.img_norm tiny) (Err Flat)
    (pick (finite rho) (pick (stops rho last eps) (Ok (Settled rho)) (Ok (Unsettled rho))) (Err RhoNotFinite)))

-- THE STATEMENT: a NaN norm is not flat. Where both norms are NaN no test for flatness passes, and the correlation is not finite
abbrev pub NanIsNotFlat : Type 0
NanIsNotFlat = (s : Stats) (last eps : Float) → s.tmp_norm ≡ nan → s.img_norm ≡ nan → verdict_of s last eps ≡ Err RhoNotFinite
