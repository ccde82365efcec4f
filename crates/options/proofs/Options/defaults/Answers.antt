-- `options::Options::defaults` takes over document 000's settings. Assumes nothing.
use Prim.Native.Nat.{ℕ}
use mathlib.Core.Path.{ap, ◌∙◌}
use lib.Ieee.{binary32, to_bits}
use Rattle.options.specs.Words.{options_of}
use Rattle.options.proofs.Options.defaults.Goals as goal

pub returns : goal.returns
unfolding options_of
returns c =
    let cfg = c.defaults-cfg.result in
    ap (λ (v : ℕ). record { eps = v; passes = cfg.max_iter; filter = cfg.gauss_filt_size; edge = c.edge.result }) c.to_bits.ensures
    ∙ ap (λ (v : ℕ). record { eps = to_bits binary32 cfg.eps; passes = cfg.max_iter; filter = cfg.gauss_filt_size; edge = v }) c.edge.ensures
    ∙ ap options_of c.defaults-cfg.ensures
