-- The four weighed pixels at a whole point: both weights are 0, so the first pixel comes back. Assumes nothing.
use Prim.Native.Nat.{ℕ, ◌+◌, ◌-◌, ◌*◌, ◌^◌, ◌≤◌, ◌<◌}
use mathlib.Core.Path.{◌≡◌, refl, ap, ◌∙◌}
use mathlib.Core.Bool.{false}
use mathlib.Core.Logic.{inl}
use mathlib.Core.List.{List}
use native.Mathlib.Nat.{sub_self}
use native.Mathlib.Omega.{arith}
use lib.Dec.{T, le→leb}
use lib.IntN.{pos}
use lib.ListN.{get_or}
use lib.Ieee.{Float, nan, binary32, fits, sub, mul, of_int, of_bits, in_float}
use lib.Ieee.Scale.{finite}
use lib.Ieee.Fits.{add-fits, of_int-fits}
use lib.Ieee.Back.{unsigned_back}
use Rattle.floats.specs.F32.{◌⊕◌, ◌⊖◌, ◌⊗◌, f32, 1f}
use Rattle.floats.proofs.Signs.{sub_whole}
use Rattle.floats.proofs.Zeros.{Zero, Kept, times_one, times_zero, kept_plus}
use Rattle.numbers.proofs.Cast.{cast_floor}
use Rattle.places.specs.Point.{index_of}
use Rattle.blends.specs.Blend.{four_of}
use Rattle.warp.specs.Warp.{sample_of}
use Rattle.moves.specs.Moves.{AllFinite}

-- the floor of a whole number as an index is the number
pub index_whole : (n : ℕ) → n ≤ 2 ^ 24 → index_of (f32 n) ≡ n
unfolding index_of in_float
index_whole n h = cast_floor (f32 n) (of_int-fits binary32 (pos n)) ∙ (unsigned_back binary32 64 n (le→leb n (2 ^ 24) h) (omega arith)).1

-- ---- the weights of a whole point: the first pixel's is 1, the others' are 0

no_rest : (n : ℕ) → n ≤ 2 ^ 24 → f32 n ⊖ f32 n ≡ f32 0
no_rest n h = sub_whole n n (omega arith) h ∙ ap f32 (sub_self n)

record FirstAlone : Type 0 where
  w00 : (1f ⊖ f32 0) ⊗ (1f ⊖ f32 0) ≡ 1f
  w01 : Zero (f32 0 ⊗ (1f ⊖ f32 0))
  w10 : Zero ((1f ⊖ f32 0) ⊗ f32 0)
  w11 : Zero (f32 0 ⊗ f32 0)

first_alone : FirstAlone
unfolding sub mul of_int of_bits
first_alone = record { w00 = refl; w01 = (false, refl); w10 = (false, refl); w11 = (false, refl) }

-- ---- the four pixels

four_first : (a b c d wx wy : Float) → wx ≡ f32 0 → wy ≡ f32 0 → T (fits binary32 a) → T (finite a) → T (finite b) → T (finite c) → T (finite d) → Kept (four_of a b c d wx wy) a
unfolding four_of
four_first a b c d wx wy ex ey f A B C D =
    let o = first_alone in
    rw (ex, ey, o.w00, times_one a f A)
    (kept_plus a (a ⊕ b ⊗ (f32 0 ⊗ (1f ⊖ f32 0)) ⊕ c ⊗ ((1f ⊖ f32 0) ⊗ f32 0)) (d ⊗ (f32 0 ⊗ f32 0)) A (add-fits binary32 _ _)
    (kept_plus a (a ⊕ b ⊗ (f32 0 ⊗ (1f ⊖ f32 0))) (c ⊗ ((1f ⊖ f32 0) ⊗ f32 0)) A (add-fits binary32 _ _)
    (kept_plus a a (b ⊗ (f32 0 ⊗ (1f ⊖ f32 0))) A f (inl refl) (times_zero b _ B o.w01))
    (times_zero c _ C o.w10))
    (times_zero d _ D o.w11))

-- the sample at X, Y is the source's number there
pub sample_whole : (src : List Float) (w n X Y : ℕ) → AllFinite src n → X ≤ 2 ^ 24 → Y ≤ 2 ^ 24 → Y * w + X + w + 1 < n → Kept (sample_of src w (f32 X) (f32 Y)) (get_or src (Y * w + X) nan)
unfolding sample_of
sample_whole src w n X Y all h_x h_y l =
    rw (index_whole X h_x, index_whole Y h_y)
    (four_first _ _ _ _ _ _ (no_rest X h_x) (no_rest Y h_y) (all.are_f32 (Y * w + X) (omega arith)) (all.are_finite (Y * w + X) (omega arith)) (all.are_finite (Y * w + (X + 1)) (omega arith)) (all.are_finite ((Y + 1) * w + X) (omega arith)) (all.are_finite ((Y + 1) * w + (X + 1)) (omega arith)))
