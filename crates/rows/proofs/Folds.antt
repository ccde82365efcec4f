-- Any fold over the marked pixels as a loop makes it: it begins where all marks lie behind, a turn goes through a stretch of them, and it ends where no more come. `step`
-- is what the definitions do at a pixel, `step'` what the code does there. Assumes nothing.
use Prim.Native.Nat.{ℕ, ◌-◌, ◌≤◌, ◌<◌}
use mathlib.Core.Path.{◌≡◌, ◌∙◌}
use mathlib.Core.List.{List}
use Rattle.lists.specs.Marked.{over_marked, over_range}
use Rattle.marks.specs.Marks.{on}
use Rattle.bits.specs.Words.{unpacked_of}
use Rattle.bits.specs.Stretches.{StretchOf}
use Rattle.bits.specs.declared.Stretch.{Stretch}
use Rattle.bits.proofs.Stretches.{stretch_turn}
use Rattle.rows.specs.Between.{Between, FoldBetween}
use Rattle.rows.proofs.Between.{fold_between}

module _ {S : Type 0} (ws : List ℕ) (n : ℕ) (step : S → ℕ → S) (z : S) where
  -- over the marked pixels below i
  unfoldable pub fold_to : ℕ → S
  fold_to i = over_marked (on (unpacked_of ws n)) step z i

  module _ (from to : ℕ) (o : Between (unpacked_of ws n) n from to) where
    pub fold_none : z ≡ fold_to from
    unfolding fold_to FoldBetween
    fold_none = (fold_between S (unpacked_of ws n) n from to o step z).0

    pub fold_all : fold_to to ≡ fold_to n
    unfolding fold_to FoldBetween
    fold_all = (fold_between S (unpacked_of ws n) n from to o step z).1

  pub fold_stretch : (step' : S → ℕ → S) → ((u : S) (k : ℕ) → k < n → step' u k ≡ step u k) → (e i : ℕ) (r : Stretch) → e ≤ n → StretchOf ws i e r → (s t : S) → s ≡ fold_to i →
      t ≡ over_range step' s r.from (r.to - r.from) → t ≡ fold_to r.to
  unfolding fold_to
  fold_stretch step' same e i r within o s t q f = f ∙ stretch_turn ws n e i r within o step step' z s q same
