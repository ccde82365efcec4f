-- A loop that goes by `marked_stretches`: what its walk is like at a turn, and where it ends. Assumes nothing.
use Prim.Native.Nat.{ℕ}
use mathlib.Core.Path.{◌≡◌, ap, ◌∙◌}
use mathlib.Core.List.{List}
use Rattle.std.specs.declared.option.Option.TheVariants.{Some, None}
use Rattle.bits.specs.Stretches.{StretchOf}
use Rattle.bits.specs.Walks.{NextStretch}
use Rattle.bits.specs.declared.Stretch.{Stretch}
use Rattle.bits.specs.declared.walk.MarkedStretches.{MarkedStretches}

-- s goes by the stretches of these words, as far as the pixel e
pub record Along (ws : List ℕ) (e : ℕ) (s : MarkedStretches) : Type 0 where
  pub words : s.words.now ≡ ws
  pub end : s.end ≡ e

-- a turn gave the stretch r, and the walk goes on behind it
pub record Turn (ws : List ℕ) (e : ℕ) (s t : MarkedStretches) (r : Stretch) : Type 0 where
  pub here : StretchOf ws s.at e r
  pub behind : t.at ≡ r.to
  pub on : Along ws e t

pub along_turn : (ws : List ℕ) (e : ℕ) (s t : MarkedStretches) (r : Stretch) → Along ws e s → NextStretch s (Some r) t → Turn ws e s t r
along_turn ws e s t r p q = record {
  here = rw (p.words, p.end) at q.0.1;
  behind = q.0.2;
  on = record { words = ap (λ b. b.now) q.1 ∙ p.words; end = q.2 ∙ p.end };
}

pub along_end : (ws : List ℕ) (e : ℕ) (s t : MarkedStretches) → Along ws e s → NextStretch s None t → s.at ≡ e
along_end ws e s t p q = q.0.0 ∙ p.end
