-- Where no side changes and the filter is 1, a template's bytes outside the marks of every pass do not count. Assumes nothing.
use Prim.Native.Nat.{ℕ, ◌*◌, ◌≤◌, ◌<◌, max}
use mathlib.Core.Path.{◌≡◌, refl, sym, ap, subst, ◌∙◌}
use mathlib.Core.Logic.{◌⊎◌, inl, inr}
use mathlib.Core.List.{List}
use native.Mathlib.Nat.{le_of_eq}
use lib.ListN.{length, get_or, set}
use lib.Seq.{get_or-set_other}
use lib.Ieee.{Float, binary32, nan, to_bits}
use Rattle.lists.proofs.Grow.{get_d_tab}
use Rattle.floats.specs.F32.{f32}
use Rattle.floats.proofs.Patterns.{lt_or_le}
use Rattle.settings.specs.Settings.{edge_of}
use Rattle.settings.specs.Sides.{resized_of}
use Rattle.settings.specs.declared.EccConfig.{EccConfig}
use Rattle.settings.specs.declared.Sides.{Sides}
use Rattle.settings.proofs.Resizing.{resized_off, resized_kept}
use Rattle.prepare.specs.Prepared.{gray_of, prepared_of}
use Rattle.prepare.proofs.Frames.{scaled_same, prepared_one}
use Rattle.checks.specs.Checks.{size_of}
use Rattle.demands.specs.Agree.{Marked, prepared_at, SeenAlike, Plain, BytesAlike}

module _ (w h : ℕ) (cfg : EccConfig) where
  -- edge 0, or a longer side that does not exceed the edge
  pub plain : (edge_of cfg ≡ 0) ⊎ (max w h ≤ edge_of cfg) → cfg.gauss_filt_size ≡ 1 → Plain w h cfg
  plain e f = record { sides_stay = stay (lt_or_le 0 (edge_of cfg)) e; filter_one = f }
    where
      stay : (0 < edge_of cfg) ⊎ (edge_of cfg ≤ 0) → (edge_of cfg ≡ 0) ⊎ (max w h ≤ edge_of cfg) → resized_of (edge_of cfg) w h ≡ record { w = w; h = h }
      stay (inr l) e = resized_off (edge_of cfg) w h l
      stay (inl l) (inl e) = resized_off (edge_of cfg) w h (le_of_eq e)
      stay (inl l) (inr e) = resized_kept (edge_of cfg) w h l e

  module _ (P : Plain w h cfg) where
    -- a prepared pixel is its byte
    pixel_is : (bytes : List ℕ) (i : ℕ) → length bytes ≡ w * h → i < size_of cfg w h → prepared_at bytes w h cfg i ≡ f32 (get_or bytes i 0)
    unfolding prepared_at size_of gray_of
    pixel_is bytes i sized l =
        let ksize = cfg.gauss_filt_size in
        let few : i < length bytes = rw sized (rw P.sides_stay at l) in
        ap (λ (s : Sides). get_or (prepared_of bytes w h s.w s.h ksize) i nan) P.sides_stay
        ∙ ap (λ (z : List Float). get_or z i nan) (prepared_one bytes w h w h ksize P.filter_one ∙ scaled_same bytes w h w h refl refl)
        ∙ get_d_tab (length bytes) i (λ i. f32 (get_or bytes i 0)) nan few

-- templates whose bytes agree at the marked pixels hold the same bits there
pub bytes_seen : (template template' input : List ℕ) (w h : ℕ) (cfg : EccConfig) → Plain w h cfg → length template ≡ w * h → length template' ≡ w * h →
    BytesAlike template template' input w h cfg → SeenAlike template template' input w h cfg
unfolding BytesAlike SeenAlike
bytes_seen template template' input w h cfg P sized sized' alike i s =
    ap (to_bits binary32) (pixel_is w h cfg P template i sized s.within ∙ ap f32 (alike i s) ∙ sym (pixel_is w h cfg P template' i sized' s.within))

-- a template with a byte changed that no pass marks
pub changed_alike : (template input : List ℕ) (w h : ℕ) (cfg : EccConfig) (i v : ℕ) → (Marked template input w h cfg i → ⊥) → BytesAlike template (set template i v) input w h cfg
unfolding BytesAlike
changed_alike template input w h cfg i v unmarked j s = sym (get_or-set_other template i j v 0 (λ e. unmarked (subst (Marked template input w h cfg) e s)))
