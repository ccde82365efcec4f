-- Only marked pixels count: which pixels the passes of a call mark, and templates that agree there. Definitions only.
use Rattle.std.specs.Prelude.{ℕ, ◌<◌, ◌≡◌, Bool, true, false, List, get_or, Float}
use Rattle.std.specs.Float.{binary32, nan}
use Rattle.std.specs.Float.Ieee.{to_bits}
use Rattle.settings.specs.Settings.{edge_of}
use Rattle.settings.specs.Sides.{resized_of}
use Rattle.settings.specs.declared.EccConfig.{EccConfig}
use Rattle.prepare.specs.Prepared.{prepared_of}
use Rattle.checks.specs.Checks.{size_of}
use Rattle.marks.specs.Marks.{on}
use Rattle.pose.specs.Pose.{affine_from_theta_tx_ty}
use Rattle.places.specs.Point.{marks_of}
use Rattle.runs.specs.Runs.{Run, going, stopped, refused, after}
use Rattle.alignment.specs.Aligned.{pass_in}

-- the next pass of a run marks the pixel i; a run that has ended has no next pass
unfoldable pub marks_next : ℕ → ℕ → Run → ℕ → Bool
marks_next tw th (going k p rho last) i = on (marks_of (affine_from_theta_tx_ty p) tw th) i
marks_next tw th (stopped k p rho) i = false
marks_next tw th (refused k n) i = false

-- the run of a call after k of its passes
unfoldable pub run_after : List ℕ → List ℕ → ℕ → ℕ → EccConfig → ℕ → Run
run_after template input w h cfg k = let s = resized_of (edge_of cfg) w h in after (pass_in template input w h s.w s.h cfg) k

-- the pixel i is marked in a pass of the call: the one that `done` passes go before
pub record Marked (template input : List ℕ) (w h : ℕ) (cfg : EccConfig) (i : ℕ) : Type 0 where
  pub done : ℕ
  pub few : done < cfg.max_iter
  pub within : i < size_of cfg w h
  pub marked : let s = resized_of (edge_of cfg) w h in marks_next s.w s.h (run_after template input w h cfg done) i ≡ true

-- the pixel i of the prepared template
unfoldable pub prepared_at : List ℕ → ℕ → ℕ → EccConfig → ℕ → Float
prepared_at template w h cfg i = let s = resized_of (edge_of cfg) w h in get_or (prepared_of template w h s.w s.h cfg.gauss_filt_size) i nan

-- the prepared templates hold the same bits at each pixel that is marked in any pass of the first call
unfoldable pub SeenAlike : List ℕ → List ℕ → List ℕ → ℕ → ℕ → EccConfig → Type 0
SeenAlike template template' input w h cfg =
    (i : ℕ) → Marked template input w h cfg i → to_bits binary32 (prepared_at template w h cfg i) ≡ to_bits binary32 (prepared_at template' w h cfg i)

-- no side changes and the filter is 1, so that a prepared pixel is its byte
pub record Plain (w h : ℕ) (cfg : EccConfig) : Type 0 where
  pub sides_stay : resized_of (edge_of cfg) w h ≡ record { w = w; h = h }
  pub filter_one : cfg.gauss_filt_size ≡ 1

-- the templates' bytes are the same at each pixel that is marked in any pass of the first call
unfoldable pub BytesAlike : List ℕ → List ℕ → List ℕ → ℕ → ℕ → EccConfig → Type 0
BytesAlike template template' input w h cfg = (i : ℕ) → Marked template input w h cfg i → get_or template i 0 ≡ get_or template' i 0
