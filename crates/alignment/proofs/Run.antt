-- The passes over a work that both frames were made ready in are the passes of the call. Assumes nothing.
use Prim.Native.Nat.{ℕ, ◌*◌}
use mathlib.Core.Path.{◌≡◌, refl}
use mathlib.Core.List.{List}
use lib.Ieee.{Float}
use Rattle.lists.specs.Lists.{image}
use Rattle.floats.specs.F32.{◌⊘◌, f32}
use Rattle.settings.specs.declared.EccConfig.{EccConfig}
use Rattle.frames.specs.Ready.{Ready}
use Rattle.pass.specs.Pass.{pass_of}
use Rattle.runs.specs.Runs.{after, outcome_of}
use Rattle.alignment.specs.Aligned.{pass_in, run_of}

pub ready_run : (template input : List ℕ) (w h tw th : ℕ) (cfg : EccConfig) (xs ys : List Float) → Ready template input w h tw th cfg.gauss_filt_size xs ys →
    outcome_of (f32 tw ⊘ f32 w) (f32 th ⊘ f32 h)
    (after (pass_of (image (tw * th) 8 ys) (image (tw * th) 2 ys) (image (tw * th) 3 ys) (image (tw * th) 4 ys) tw th cfg.eps) cfg.max_iter)
    ≡ run_of template input w h tw th cfg
unfolding pass_in run_of
ready_run template input w h tw th cfg xs ys r = rw (r.template_is, r.input_is, r.gx_is, r.gy_is) refl
