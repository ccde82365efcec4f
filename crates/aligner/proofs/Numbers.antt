-- What the first checks let through, and which number decides over work and marks. Assumes nothing.
use Prim.Native.Nat.{ℕ, ◌*◌, ◌≤◌}
use mathlib.Core.Path.{◌≡◌}
use mathlib.Core.Bool.{true, false}
use lib.Dec.{eqb, lit≤}
use borrow.Author.Tests.{ltb-false, eqb-true}
use Rattle.lists.proofs.Cases.{pick_true, pick_false}
use Rattle.checks.specs.Checks.{check_of}
use Rattle.lists.proofs.Cases.{passed, passed_by}
use Rattle.aligner.specs.Aligner.{entry_of, known_of, begun_of, refused_of}
use Rattle.aligner.specs.declared.EccAligner.{EccAligner}

-- a frame that is taken: sides, length and store are in order
pub taken : (t w h s : ℕ) → entry_of t w h s ≡ 0 → (w ≤ 4096) × (h ≤ 4096) × (t ≡ w * h) × (w * h ≤ s)
unfolding entry_of
taken t w h s e =
    let a = passed_by _ 2 _ (lit≤ tt) e in
    let b = passed_by _ 2 _ (lit≤ tt) a.1 in
    let c = passed _ _ 1 (lit≤ tt) b.1 in
    let d = passed_by _ 13 _ (lit≤ tt) c.1 in
    (ltb-false _ _ a.0, ltb-false _ _ b.0, eqb-true _ _ c.0, ltb-false _ _ d.0)

module _ (a : EccAligner) (t w h k m : ℕ) where
  pub begun_refused : eqb (known_of a w h) 0 ≡ false → begun_of a t w h k m ≡ known_of a w h
  unfolding begun_of
  begun_refused e = pick_false _ _ _ e

  pub begun_checked : eqb (known_of a w h) 0 ≡ true → begun_of a t w h k m ≡ check_of (w * h) t w h a.cfg k m
  unfolding begun_of
  begun_checked e = pick_true _ _ _ e

  pub refused_first : (s : ℕ) → eqb (entry_of t w h s) 0 ≡ false → refused_of a t w h s k m ≡ entry_of t w h s
  unfolding refused_of
  refused_first s e = pick_false _ _ _ e

  pub refused_later : (s : ℕ) → eqb (entry_of t w h s) 0 ≡ true → refused_of a t w h s k m ≡ begun_of a t w h k m
  unfolding refused_of
  refused_later s e = pick_true _ _ _ e
