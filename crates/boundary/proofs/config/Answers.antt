-- `boundary::config` meets its contract: edge 0 is none. Assumes nothing.
use Rattle.std.specs.Prelude.{ℕ, Option}
use mathlib.Core.Path.{sym, ap}
use borrow.Author.Tests.{eq-eqb, ne_eqb}
use Rattle.lists.proofs.Cases.{pick_true, pick_false}
use Rattle.boundary.specs.Boundary.{config_of}
use Rattle.boundary.proofs.config.Goals as goal

pub returns-then-edge-eq0 : goal.returns-then-edge-eq0
unfolding config_of
returns-then-edge-eq0 c =
    let a = c.args in
    ap (λ (e : Option ℕ). record { eps = a.eps; max_iter = a.max_iter; gauss_filt_size = a.filter; resize_long_edge = e }) (sym (pick_true _ _ _ (eq-eqb _ _ c.if-edge-eq0.true)))

pub returns-else-edge-eq0 : goal.returns-else-edge-eq0
unfolding config_of
returns-else-edge-eq0 c =
    let a = c.args in
    ap (λ (e : Option ℕ). record { eps = a.eps; max_iter = a.max_iter; gauss_filt_size = a.filter; resize_long_edge = e }) (sym (pick_false _ _ _ (ne_eqb _ _ c.if-edge-eq0.false)))
