-- The reads of a piece, stretch by stretch. Assumes nothing.
use mathlib.Core.Path.{◌≡◌, refl, sym, ap, ◌∙◌}
use mathlib.Core.List.{List}
use Prim.Native.Nat.{ℕ, ◌+◌, ◌-◌, ◌*◌, ◌≤◌, ◌<◌}
use native.Mathlib.Omega.{arith}
use lib.ListN.{length}
use lib.Ieee.{Float}
use Rattle.lists.specs.Lists.{image}
use Rattle.lists.proofs.Cases.{pick_true, pick_false}
use Rattle.floats.specs.F32.{0f}
use Rattle.bits.specs.Words.{unpacked_of}
use Rattle.bits.specs.Stretches.{StretchOf}
use Rattle.bits.specs.declared.Stretch.{Stretch}
use Rattle.bits.proofs.Stretches.{stretch_bare, stretch_full}
use Rattle.blends.specs.Reads.{three_rows, placed_of}
use Rattle.blends.proofs.Beside.{three_none, three_join, three_length, three_sources}
use Rattle.blends.proofs.Stretch.{placed_same}
use Rattle.warp.specs.Rows.{read_of}

-- ---- the piece
module _ (n w at len : ℕ) (ws spots : List ℕ) (across down xs : List Float) where
  abbrev ms : List ℕ
  ms = unpacked_of ws n

  abbrev rule : ℕ → ℕ → Float
  rule = read_of n w at ms spots across down xs

  -- what holds when x pixels are read
  pub record ReadsHeld (part : List Float) (x : ℕ) : Type 0 where
    pub bound : x ≤ len
    pub part_length : length part ≡ length xs
    pub images : part ≡ three_rows n at x rule xs

  module _ (fits : (at + len ≤ n) × (6 * n ≤ length xs)) where
    pub reads_start : ReadsHeld xs 0
    reads_start = record { bound = omega arith; part_length = refl; images = three_none n at rule xs }

    pub reads_end : (part : List Float) (x : ℕ) → x ≡ len → ReadsHeld part x → part ≡ three_rows n at len rule xs
    reads_end part x e q = rw e at q.images

    -- a turn: the pixels up to the next stretch are not marked, and those of the stretch are
    module _ (part : List Float) (x : ℕ) (r : Stretch) (o : StretchOf ws (at + x) (at + len) r) (q : ReadsHeld part x) where
      abbrev from : ℕ
      from = r.from - at

      abbrev to : ℕ
      to = r.to - at

      from_is : r.from ≡ at + from
      from_is = omega (arith, o.low)

      unmarked : (k i : ℕ) → i < from - x → 0f ≡ rule k (x + i)
      unfolding read_of
      unmarked k i h = sym (pick_false _ _ _ (stretch_bare ws n (at + len) (at + x) r fits.0 o (at + (x + i)) (omega arith) (omega (arith, o.low))))

      marked : (k i : ℕ) → i < to - from → placed_of n w spots across down xs k (from + i) ≡ rule k (from + i)
      unfolding read_of
      marked k i h = sym (pick_true _ _ _ (stretch_full ws n (at + len) (at + x) r fits.0 o (at + (from + i)) (omega (arith, o.low)) (omega (arith, o.low, o.order))))

      module _ (part₁ : List Float) (cleared : part₁ ≡ three_rows n (at + x) (r.from - (at + x)) (λ _ _. 0f) part) where
        pub clear_turn : part₁ ≡ three_rows n at from rule xs
        clear_turn =
            let k : r.from - (at + x) ≡ from - x = omega (arith, o.low) in
            let z : x + (from - x) ≡ from = omega (arith, o.low) in
            cleared
            ∙ rw (q.images, k) (three_join n at rule xs x (from - x) (λ _ _. 0f) (omega (arith, o.low, o.order, o.high)) fits.1 (λ j i J h. unmarked j i h))
            ∙ ap (λ (m : ℕ). three_rows n at m rule xs) z

        module _ (part₂ : List Float) (read : part₂ ≡ three_rows n (at + from) (to - from) (λ k i. placed_of n w spots across down part₁ k (from + i)) part₁) where
          pub reads_turn : ReadsHeld part₂ to
          reads_turn =
              let z : from + (to - from) ≡ to = omega (arith, o.low, o.order) in
              let room : at + from + (to - from) ≤ n = omega (arith, o.low, o.order, o.high, fits.0) in
              let kept : (k : ℕ) → k < 3 → image n k part₁ ≡ image n k xs =
              λ k K. ap (image n k) clear_turn ∙ three_sources n at rule xs from (omega (arith, o.low, o.order, o.high, fits.0)) fits.1 k K in
              let e : part₂ ≡ three_rows n at to rule xs =
              read
              ∙ ap (three_rows n (at + from) (to - from) (λ k i. placed_of n w spots across down part₁ k (from + i))) clear_turn
              ∙ three_join n at rule xs from (to - from) (λ k i. placed_of n w spots across down part₁ k (from + i)) room fits.1 (λ j i J h. placed_same n w spots across down part₁ xs j (from + i) (kept j J) ∙ marked j i h)
              ∙ ap (λ (m : ℕ). three_rows n at m rule xs) z in
              record {
                bound = omega (arith, o.high);
                part_length = ap length e ∙ three_length n at rule xs to (omega (arith, o.low, o.order, o.high, fits.0)) fits.1;
                images = e;
              }
