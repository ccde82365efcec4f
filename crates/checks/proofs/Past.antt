-- What holds past the checks: sides, lengths, settings and room are in order; and the number of pixels. Assumes nothing.
use Prim.Native.Nat.{ℕ, ◌*◌, ◌%◌, ◌≤◌}
use mathlib.Core.Path.{◌≡◌, ap, ◌∙◌}
use native.Mathlib.Omega.{arith}
use lib.Dec.{lit≤}
use borrow.Author.Tests.{ltb-false, eqb-true, eqb-false}
use Rattle.lists.specs.Marked.{words_for}
use Rattle.lists.specs.Premises.{InRange, OddFilter}
use Rattle.lists.proofs.Cases.{passed, passed_by}
use Rattle.settings.specs.Settings.{edge_of}
use Rattle.settings.specs.Sides.{resized_of}
use Rattle.settings.specs.declared.EccConfig.{EccConfig}
use Rattle.settings.specs.declared.Sides.{Sides}
use Rattle.checks.specs.Checks.{size_of, room_of, limits_of, check_of}

-- of a template, an input, work and marks of these lengths
pub record Past (template input w h : ℕ) (cfg : EccConfig) (work marks : ℕ) : Type 0 where
  pub sides : InRange w h
  pub template_fits : template ≡ w * h
  pub input_fits : input ≡ w * h
  pub filter : OddFilter cfg.gauss_filt_size
  pub passes_most : cfg.max_iter ≤ 1000
  pub work_fits : 12 * size_of cfg w h ≤ work
  pub marks_fit : words_for (size_of cfg w h) ≤ marks

pub past : (template input w h : ℕ) (cfg : EccConfig) (work marks : ℕ) → check_of template input w h cfg work marks ≡ 0 → Past template input w h cfg work marks
unfolding check_of limits_of room_of
past template input w h cfg work marks e =
    let a = passed_by _ 2 _ (lit≤ tt) e in
    let b = passed_by _ 2 _ (lit≤ tt) a.1 in
    let c = passed_by _ 1 _ (lit≤ tt) b.1 in
    let d = passed_by _ 1 _ (lit≤ tt) c.1 in
    let f = passed _ _ 1 (lit≤ tt) d.1 in
    let g = passed _ _ 1 (lit≤ tt) f.1 in
    let o = passed_by _ 1 _ (lit≤ tt) g.1 in
    let p = passed_by _ 3 _ (lit≤ tt) o.1 in
    let q = passed_by _ 3 _ (lit≤ tt) p.1 in
    let r = passed_by _ 4 _ (lit≤ tt) q.1 in
    let s = passed_by _ 4 _ (lit≤ tt) r.1 in
    let w0 = eqb-false w 0 c.0 in
    let h0 = eqb-false h 0 d.0 in
    let k0 = eqb-false (cfg.gauss_filt_size % 2) 0 o.0 in
    record {
      sides = record { w_least = omega (arith, w0); w_most = ltb-false _ _ a.0; h_least = omega (arith, h0); h_most = ltb-false _ _ b.0 };
      template_fits = eqb-true _ _ f.0;
      input_fits = eqb-true _ _ g.0;
      filter = record { odd = omega (arith, k0); most = ltb-false _ _ p.0 };
      passes_most = ltb-false _ _ q.0;
      work_fits = ltb-false _ _ r.0;
      marks_fit = ltb-false _ _ s.0;
    }

-- the number of pixels, by the sides that were worked out
pub size_is : (cfg : EccConfig) (w h edge : ℕ) (s : Sides) → s ≡ resized_of edge w h → edge ≡ edge_of cfg → s.w * s.h ≡ size_of cfg w h
unfolding size_of
size_is cfg w h edge s e f = ap (λ (s : Sides). s.w * s.h) (e ∙ ap (λ (k : ℕ). resized_of k w h) f)
